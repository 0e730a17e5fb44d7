mod FilledRows
mod FilledWalk
mod NamedLines
mod UsageSteps
mod WrittenLines
