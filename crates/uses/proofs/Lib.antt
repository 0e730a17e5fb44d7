mod Apart
mod Checked
mod Counted
mod Outlined
