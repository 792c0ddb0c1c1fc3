use Rattle.std.proofs.Common.{◌≡◌, ◌++◌, drop, map}
use Rattle.subsetter_cff.specs.Read.FdArray.PrivateView.{private_view}
use Rattle.pdf_widths.specs.Defaults.{defaults_of}
use Rattle.pdf_widths.proofs.defaults.dicts_defaults.Given as goal

abbrev pub invariant-loop-dict : goal.invariant-loop-dict
invariant-loop-dict l = l.all.items ++ map (λ f. defaults_of (private_view f.private).entries) (drop l.dict-index l.dicts) ≡ map (λ f. defaults_of (private_view f.private).entries) l.dicts
