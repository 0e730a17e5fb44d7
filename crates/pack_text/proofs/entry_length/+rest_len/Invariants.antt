use Rattle.pack_text.proofs.entry_length.+rest_len.Given as goal

abbrev pub decreases-rest_len : goal.decreases-rest_len
decreases-rest_len l = l.left
