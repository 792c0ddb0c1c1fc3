use Rattle.std.proofs.Common.{◌≡◌, drop}
use Rattle.pdf_cff.specs.Values.{first_stem}
use Rattle.pdf_cff.proofs.FirstStems.{views}
use Rattle.pdf_cff.proofs.dict_stems.first_stem_in.Given as goal

abbrev pub invariant-loop-dict : goal.invariant-loop-dict
invariant-loop-dict l = first_stem l.units (views (drop l.dict-index l.dicts)) ≡ first_stem l.units (views l.dicts)
