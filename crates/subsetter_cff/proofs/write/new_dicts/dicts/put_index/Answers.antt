use Rattle.std.proofs.Common.{inl, inr}
use Rattle.std.proofs.lemmas.Result.{err_from_is_err_and}
use Rattle.subsetter_cff.proofs.write.new_dicts.dicts.put_index.Goals as goal

pub returns-in_err-write_index-clause-err : goal.returns-in_err-write_index-clause-err
returns-in_err-write_index-clause-err c =
    let p = err_from_is_err_and c.from_residual.result c.from_residual.ensures.1 in
    rw (p.1, p.2) (elim c.in_err-write_index.ensures.err [ inl h ↦ h | inr h ↦ absurd (h.1 c.requires) ])
