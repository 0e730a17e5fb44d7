use Rattle.std.proofs.Common.{refl, inl, inr}
use Rattle.std.proofs.lemmas.Result.{err_from_is_err_and}
use Rattle.gitpool.proofs.pack_writing.pack.Goals as goal

pub returns-in_err-read_text : goal.returns-in_err-read_text
returns-in_err-read_text g c =
    let p = err_from_is_err_and c.from_residual.result c.from_residual.ensures.1 in
    rw (p.1, p.2) (inr (c.in_err-read_text.ensures, refl))

pub returns : goal.returns
returns g c = inl (record {
  text = c.read_text.new.text.items;
  read = c.in_ok-read_text.ensures.0;
  bounded = c.in_ok-read_text.ensures.1;
  answered = rw c.deref.ensures.value at c.write_asked.ensures;
})
