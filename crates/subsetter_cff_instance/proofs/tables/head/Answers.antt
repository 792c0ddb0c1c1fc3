use Rattle.std.proofs.Common.{ℕ, List, [], ◌∷◌, ◌++◌, take, drop, ap, ◌∙◌}
use Rattle.std.specs.Prelude.{slice_range}
use Rattle.std.proofs.lemmas.List.{take_rest}
use Rattle.subsetter_cff_instance.proofs.FileLaws.Head.{five_written}
use Rattle.subsetter_cff_instance.proofs.tables.head.Goals as goal

pub returns : goal.returns
returns c =
    let h = c.args.source.now in
    five_written _ (take 8 h) (0 ∷ 0 ∷ 0 ∷ 0 ∷ []) (slice_range h 12 36) c.box_bytes.result (drop 44 h) _ _ _ _ _ _ c.in_ok-head.ensures.items c.in_ok-extend_from_slice.ensures.items c.in_ok-extend_from_slice-2.ensures.items c.in_ok-extend_from_slice-3.ensures.items
    c.in_ok-extend_from_slice-4.ensures.items c.in_ok-extend_from_slice-5.ensures.items (take_rest h 44)
    ∙ ap (λ (l : List ℕ). take 8 h ++ (0 ∷ 0 ∷ 0 ∷ 0 ∷ []) ++ (slice_range h 12 36 ++ l ++ drop 44 h)) c.box_bytes.ensures
