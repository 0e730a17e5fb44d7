use Rattle.pack_text.proofs.entry.+put_size.Given as goal

abbrev pub decreases-put_size : goal.decreases-put_size
decreases-put_size g l = l.left
