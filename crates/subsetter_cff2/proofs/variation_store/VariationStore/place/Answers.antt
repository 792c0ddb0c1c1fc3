use Rattle.std.proofs.Common.{◌≡◌, ◌∙◌, ◌+◌, ◌*◌, List, ℕ, Option, length, take, drop, ap, arith}
use Rattle.std.specs.Option.{option_map}
use Rattle.subsetter_base.specs.Bytes.{number}
use Rattle.subsetter_variation.specs.Items.ItemVariations.{Store}
use Rattle.subsetter_cff2.specs.declared.variation_store.RegionPlace.{RegionPlace}
use Rattle.subsetter_cff2.proofs.StoreLaws as laws
use Rattle.subsetter_cff2.proofs.variation_store.VariationStore.place.Goals as goal

abbrev seen : List ℕ → Option RegionPlace → Option (List ℕ)
seen bytes found = option_map (λ p. take (p.count * 2) (drop p.start bytes)) found

abbrev counted : ℕ → Store → Option ℕ
counted at s = number s.bytes (at + 4) 2

pub returns-in_err-at-clause-value : goal.returns-in_err-at-clause-value
returns-in_err-at-clause-value c = ap (seen c.args.self.now.bytes) c.from_residual.ensures ∙ laws.no_offset c.args.self.now c.args.outer c.in_err-at.ensures.value

pub returns-in_err-count-clause-value : goal.returns-in_err-count-clause-value
returns-in_err-count-clause-value c =
    ap (seen c.args.self.now.bytes) c.from_residual-in_err-count.ensures
    ∙ laws.no_count c.args.self.now c.args.outer c.in_ok-at.at c.in_ok-at.ensures.value (c.in_err-count.ensures.value ∙ ap (counted c.in_ok-at.at) c.self.view_is)

pub returns-then-end-self-clause-value : goal.returns-then-end-self-clause-value
returns-then-end-self-clause-value c =
    let size = ap (λ (s : Store). length s.bytes) c.self.view_is in
    laws.cut_off c.args.self.now c.args.outer c.in_ok-at.at c.in_ok-count.count c.in_ok-at.ensures.value (c.in_ok-count.ensures.value ∙ ap (counted c.in_ok-at.at) c.self.view_is)
    (omega (arith, c.if-end-self.true, c.saturating_add-end.ensures, c.saturating_add-start.ensures, c.from.ensures, size))

pub returns-clause-value : goal.returns-clause-value
returns-clause-value c =
    let size = ap (λ (s : Store). length s.bytes) c.self.view_is in
    let start : c.saturating_add-start.result ≡ c.in_ok-at.at + 6 = omega (arith, c.saturating_add-start.ensures, c.in_ok-at.ensures.small) in
    laws.they_are c.args.self.now c.args.outer c.in_ok-at.at c.in_ok-count.count c.saturating_add-start.result c.in_ok-at.ensures.value (c.in_ok-count.ensures.value ∙ ap (counted c.in_ok-at.at) c.self.view_is) start
    (omega (arith, c.if-end-self.false, c.saturating_add-end.ensures, c.from.ensures, size, start, c.in_ok-at.ensures.small, c.in_ok-count.ensures.small))
