use Rattle.std.proofs.Common.{◌≡◌, [], ◌∷◌, ◌++◌, set, length, refl, ap, ◌∙◌, List, ℕ, arith}
use Rattle.subsetter_base.specs.Numbers.{entry_index, AreNumbers}
use Rattle.subsetter_base.proofs.NumberLemmas.{no_numbers, number_added}
use Rattle.subsetter_base.proofs.IndexLemmas.{IsWithoutRepeats-push}
use Rattle.subsetter_base.proofs.GlyphLemmas.{small-push}
use Rattle.subsetter_base.proofs.glyph_remapper.GlyphRemapper.with_capacity.Goals as goal

pub add_page-requires-clause-are_pages : goal.add_page-requires-clause-are_pages
add_page-requires-clause-are_pages c = rw (c.in_ok-pages.ensures.items_if_clones_equal (λ y h. h), c.in_ok-entries.ensures.items_if_clones_equal (λ y h. h)) no_numbers.are_pages

pub invariant_of-result : goal.invariant_of-result
invariant_of-result c =
    let entries = c.add_page.new.entries.items in
    let before : AreNumbers c.in_ok-pages.pages.items c.in_ok-entries.entries.items [] = rw (c.in_ok-pages.ensures.items_if_clones_equal (λ y h. h), c.in_ok-entries.ensures.items_if_clones_equal (λ y h. h)) no_numbers in
    let now : c.push.new.self.items ≡ [] ++ 0 ∷ [] = c.in_ok-push.ensures.items ∙ ap (λ (l : List ℕ). l ++ 0 ∷ []) c.in_ok-backward.ensures.items in
    let at : c.entry_index-index.result ≡ entry_index c.add_page.new.pages.items 0 = c.entry_index-index.ensures ∙ ap (λ (l : List ℕ). entry_index l 0) c.deref.ensures.value in
    rw now (record {
      numbers = number_added c.add_page.new.pages.items entries c.in_ok-pages.pages.items c.in_ok-entries.entries.items [] 0 0 (set entries c.entry_index-index.result 1) before c.add_page.ensures.are_pages c.add_page.ensures.count c.add_page.ensures.room c.add_page.ensures.stays c.in_ok-add_page.ensures.there refl refl
          (ap (λ (k : ℕ). set entries k 1) at);
      first = refl;
      few = omega arith;
      once = IsWithoutRepeats-push [] 0 refl (λ i lt. absurd (omega arith));
      small = small-push 65536 [] 0 (λ i. omega arith) (omega arith);
    })
