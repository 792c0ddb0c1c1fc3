-- A name by what was read.
use Rattle.std.proofs.Common.{◌≡◌, ℕ, List, map, refl, sym, ap, ◌∙◌}
use Rattle.std.specs.Borrow.{Bor}
use Rattle.subsetter_cff.specs.Read.Opened.{opened}
use Rattle.subsetter_cffdata.specs.Indexes.IndexView.{items}
use Rattle.glyph_names.specs.Names.{glyph_name}
use Rattle.subsetter_base.specs.Texts.{or_else}
use Rattle.glyph_names.specs.Post.{own_names, name_by_names, post_name}
use Rattle.glyph_names.specs.Standard.{macintosh_names, standard_strings}
use Rattle.glyph_names.specs.Strings.{sids_of_opened, strings_of_opened, string_by_sids, cff_name}
use Rattle.glyph_names.specs.Sources.{IsSources}
use Rattle.glyph_names.specs.declared.names.Sources.{Sources}

of_post : (post cff : List ℕ) (s : Sources) (glyph : ℕ) → IsSources post cff s → name_by_names (map (λ name. name.now) s.macintosh.items) (map (λ name. name.now) s.own.items) post glyph ≡ post_name post glyph
unfolding post_name
of_post post cff s glyph h =
    ap (λ (m : List (List ℕ)). name_by_names m (map (λ name. name.now) s.own.items) post glyph) h.macintosh ∙ ap (λ (o : List (List ℕ)). name_by_names macintosh_names o post glyph) h.own

of_cff : (post cff : List ℕ) (s : Sources) (glyph : ℕ) → IsSources post cff s → string_by_sids (map (λ name. name.now) s.standard.items) (items s.charset.strings) s.charset.sids.items glyph ≡ cff_name cff glyph
unfolding cff_name
of_cff post cff s glyph h =
    ap (λ (n : List (List ℕ)). string_by_sids n (items s.charset.strings) s.charset.sids.items glyph) h.standard ∙ (ap (λ x. string_by_sids standard_strings x s.charset.sids.items glyph) h.strings ∙ ap (λ (x : List ℕ). string_by_sids standard_strings (strings_of_opened (opened cff)) x glyph) h.sids)

pub named : (post cff : List ℕ) (s : Sources) (glyph : ℕ) (m d : List (Bor (List ℕ))) (o : List (Bor (List ℕ))) (one other name : List ℕ) → IsSources post cff s → name ≡ or_else one other → one ≡ name_by_names (map (λ name. name.now) m) (map (λ name. name.now) o) post glyph → other ≡ string_by_sids (map (λ name. name.now) d) (items s.charset.strings) s.charset.sids.items glyph → m ≡ s.macintosh.items → o ≡ s.own.items → d ≡ s.standard.items → name ≡ glyph_name post cff glyph
unfolding glyph_name
named post cff s glyph m d o one other name h n e f em eo ed =
    let now = λ (l : List (Bor (List ℕ))). map (λ (b : Bor (List ℕ)). b.now) l in
    let by_post = e ∙ (ap (λ (x : List (Bor (List ℕ))). name_by_names (now x) (now o) post glyph) em ∙ (ap (λ (x : List (Bor (List ℕ))). name_by_names (now s.macintosh.items) (now x) post glyph) eo ∙ of_post post cff s glyph h)) in
    let by_cff = f ∙ (ap (λ (x : List (Bor (List ℕ))). string_by_sids (now x) (items s.charset.strings) s.charset.sids.items glyph) ed ∙ of_cff post cff s glyph h) in
    n ∙ (ap (λ (x : List ℕ). or_else x other) by_post ∙ ap (λ (x : List ℕ). or_else (post_name post glyph) x) by_cff)
