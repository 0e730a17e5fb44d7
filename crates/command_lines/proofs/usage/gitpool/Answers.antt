use Rattle.std.proofs.Common.{ℕ, fold, take}
use Rattle.clap.specs.Words.{App, with_subcommand}
use Rattle.command_lines.specs.Usage.{alone, ask_usage, check_usage, compact_usage, copy_usage, extract_usage, gitpool, host_usage, import_usage, merge_usage, pack_usage, remove_usage, serve_usage, sizes_usage}
use Rattle.command_lines.proofs.usage.gitpool.Goals as goal

-- The program with the first of its subcommands.
abbrev with_first : ℕ → App
with_first n = fold with_subcommand alone (take n gitpool.subs)

pub returns : goal.returns
returns c =
    c.with.ensures (with_first 11) pack_usage
    (c.with-program-11.ensures (with_first 10) host_usage
    (c.with-program-10.ensures (with_first 9) merge_usage
    (c.with-program-9.ensures (with_first 8) extract_usage
    (c.with-program-8.ensures (with_first 7) sizes_usage
    (c.with-program-7.ensures (with_first 6) compact_usage
    (c.with-program-6.ensures (with_first 5) remove_usage
    (c.with-program-5.ensures (with_first 4) copy_usage
    (c.with-program-4.ensures (with_first 3) check_usage
    (c.with-program-3.ensures (with_first 2) ask_usage
    (c.with-program-2.ensures (with_first 1) import_usage
    (c.with-program.ensures alone serve_usage c.program.ensures c.for_pool.ensures)
    c.for_tenant.ensures)
    c.ask.ensures)
    c.for_pool-2.ensures)
    c.copy.ensures)
    c.for_tenant-2.ensures)
    c.for_tenant-3.ensures)
    c.for_pool-3.ensures)
    c.extract.ensures)
    c.merge.ensures)
    c.for_pool-4.ensures)
    c.pack.ensures
