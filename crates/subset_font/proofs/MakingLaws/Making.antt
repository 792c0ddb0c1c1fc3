-- What is made of the bytes of a font, or isn't.
use Rattle.std.proofs.Common.{◌≡◌, ◌⊎◌, inl, inr, ℕ, ℤ, Bor, Bool, true, false, List, [], Option, Some, None, Result, Ok, Err, refl, sym, ap, subst}
use Rattle.std.specs.Prelude.{MatchBool, MatchOption, IfOk, IfErr}
use Rattle.std.specs.Option.{option_copied, option_map}
use Rattle.subsetter_base.specs.declared.error.Error.{Error as Refusal}
use Rattle.subsetter_base.specs.declared.error.Error.TheVariants.{OutOfMemory, OverflowError}
use Rattle.subsetter_base.specs.Indexes.{HasAllAboveZero}
use Rattle.subsetter_sfnt.specs.Read.{Font}
use Rattle.subsetter.specs.Bound.{IsWithin, HasFaultWithin}
use Rattle.subsetter.specs.Fault.{HasFault}
use Rattle.subsetter.specs.Subset.{IsSubset}
use Rattle.cid_embed.specs.Embed.{numbering, HasEmbedFaultWithin, in_numbering, in_font}
use Rattle.subset_task.specs.Making.Picked.{picked_view}
use Rattle.subset_task.specs.Making.Requested.{IsRequested, IsUnasked}
use Rattle.subsetter_base.specs.declared.tag.Tag.{Tag}
use Rattle.subsetter_sfnt.specs.FontAt.{font_at}
use Rattle.subsetter_variable.specs.DefaultLocation.{IsAtDefault, IsCff2Font, IsStaticFile, HasStaticFault}
use Rattle.subsetter_variable.specs.Subset.{as_it_is}
use Rattle.subsetter_variable.proofs.Static.{static_of}
use Rattle.subset_font.specs.Making.Made as made
use Rattle.subset_font.specs.Making.Made.{face_of, font_of, taken_of, IsFaultless, IsFaultlessWithWidths, IsCleanSubset, IsWidthText, IsLastText, IsTaken, as_given, placed, IsMadeOf, IsMade, IsRefusal, IsRefusalOfWidths, IsRefused, IsUntaken, unplaced, HasRefusal, untaken, of_taken, IsRefusedFace, IsRefusedTask, IsUnmade}
use Rattle.subset_task.specs.declared.making.requested.Picked.{Picked}
use Rattle.subset_task.specs.declared.task.Task.{Task}
use Rattle.subset_font.specs.declared.making.subset.Made.{Made}
use Rattle.subset_task.specs.declared.refusals.failure.Failure.{Failure}
use Rattle.subset_task.specs.declared.refusals.failure.Failure.TheVariants.{Error}

module _ (bound : Option ℕ) (tokens depth : ℕ) (font : Font) (glyphs : List ℕ) where
  -- a mapper's subset is one for its glyphs
  pub plain_clean : (mapper out : List ℕ) → mapper ≡ numbering glyphs → (s : IsSubset tokens depth font mapper out) × ((e : Refusal) → ¬ (HasFault tokens depth font mapper s.keeps.order e)) → IsFaultless tokens depth font glyphs out
  plain_clean mapper out m clean = subst (λ (l : List ℕ). (s : IsSubset tokens depth font l out) × ((e : Refusal) → ¬ (HasFault tokens depth font l s.keeps.order e))) m clean

  pub plain_refused : (mapper : List ℕ) (why : Refusal) → mapper ≡ numbering glyphs → (why ≡ OutOfMemory) ⊎ ((order : List ℕ) × HasFaultWithin bound tokens depth font mapper order why) → (why ≡ OutOfMemory) ⊎ IsRefusal bound tokens depth font glyphs why
  plain_refused mapper why m (inl memory) = inl memory
  plain_refused mapper why m (inr fault) = inr (inr (fault.0, subst (λ (l : List ℕ). HasFaultWithin bound tokens depth font l fault.0 why) m fault.1))

  -- the glyphs leave no number for glyph 0
  pub unnumbered : (why : Refusal) → (why ≡ OutOfMemory) ⊎ ((why ≡ OverflowError) × HasAllAboveZero glyphs) → (why ≡ OutOfMemory) ⊎ IsRefusalOfWidths bound tokens depth font glyphs why
  unnumbered why (inl memory) = inl memory
  unnumbered why (inr full) = inr ([], subst (HasEmbedFaultWithin bound tokens depth font glyphs []) (sym full.0) (in_font (in_numbering full.1)))

module _ (task : Task) (font : Font) where
  -- a choice by a test that is known
  by_true : (A B : Type 0) → task.widths ≡ true → A → MatchBool task.widths A B
  by_true A B h a = subst (λ (b : Bool). MatchBool b A B) (sym h) a

  by_false : (A B : Type 0) → task.widths ≡ false → B → MatchBool task.widths A B
  by_false A B h a = subst (λ (b : Bool). MatchBool b A B) (sym h) a

  module _ (given glyphs : List ℕ) (made : Made) (g : given ≡ glyphs) (order : made.mapper ≡ numbering given) where
    pub made_with_widths : task.widths ≡ true → IsFaultlessWithWidths task.options.limits.tokens task.options.limits.depth font given made.font.items → IsWithin task.options.limits.bytes made.font.items → IsWidthText task.form font given made.text.items → IsMadeOf task font glyphs made
    made_with_widths h clean within text = record {
      within = within;
      order = subst (λ (l : List ℕ). made.mapper ≡ numbering l) g order;
      subset = subst (λ (l : List ℕ). IsCleanSubset task font l made.font.items) g (by_true (IsFaultlessWithWidths task.options.limits.tokens task.options.limits.depth font given made.font.items) (IsFaultless task.options.limits.tokens task.options.limits.depth font given made.font.items) h clean);
      text = subst (λ (l : List ℕ). IsLastText task font l made.text.items) g (by_true (IsWidthText task.form font given made.text.items) (made.text.items ≡ []) h text);
    }

    pub made_plain : task.widths ≡ false → IsFaultless task.options.limits.tokens task.options.limits.depth font given made.font.items → IsWithin task.options.limits.bytes made.font.items → made.text.items ≡ [] → IsMadeOf task font glyphs made
    made_plain h clean within text = record {
      within = within;
      order = subst (λ (l : List ℕ). made.mapper ≡ numbering l) g order;
      subset = subst (λ (l : List ℕ). IsCleanSubset task font l made.font.items) g (by_false (IsFaultlessWithWidths task.options.limits.tokens task.options.limits.depth font given made.font.items) (IsFaultless task.options.limits.tokens task.options.limits.depth font given made.font.items) h clean);
      text = by_false (IsWidthText task.form font glyphs made.text.items) (made.text.items ≡ []) h text;
    }

  module _ (given glyphs : List ℕ) (why : Refusal) (g : given ≡ glyphs) where
    face : IsRefused task font given why → IsRefusedFace task font glyphs (Error why)
    face refused = record { why = why; failure_is = refl; refused = subst (λ (l : List ℕ). IsRefused task font l why) g refused }

    pub refused_plain : task.widths ≡ false → (why ≡ OutOfMemory) ⊎ IsRefusal task.options.limits.bytes task.options.limits.tokens task.options.limits.depth font given why → (Error why ≡ Error OutOfMemory) ⊎ IsRefusedFace task font glyphs (Error why)
    refused_plain h (inl memory) = inl (ap Error memory)
    refused_plain h (inr refused) = inr (face (by_false (IsRefusalOfWidths task.options.limits.bytes task.options.limits.tokens task.options.limits.depth font given why) (IsRefusal task.options.limits.bytes task.options.limits.tokens task.options.limits.depth font given why) h refused))

    pub refused_widths : task.widths ≡ true → (why ≡ OutOfMemory) ⊎ IsRefusalOfWidths task.options.limits.bytes task.options.limits.tokens task.options.limits.depth font given why → (Error why ≡ Error OutOfMemory) ⊎ IsRefusedFace task font glyphs (Error why)
    refused_widths h (inl memory) = inl (ap Error memory)
    refused_widths h (inr refused) = inr (face (by_true (IsRefusalOfWidths task.options.limits.bytes task.options.limits.tokens task.options.limits.depth font given why) (IsRefusal task.options.limits.bytes task.options.limits.tokens task.options.limits.depth font given why) h refused))

-- ---- the font that is taken

none_said : (said : Option (Bor (List (Tag × ℤ)))) → ((at : Bor (List (Tag × ℤ))) → said ≡ Some at → ⊥) → option_copied said ≡ None
none_said None h = refl
none_said (Some at) h = absurd (h at refl)

module _ (task : Task) (bytes : List ℕ) where
  -- as it is given, where no coordinates are said
  pub given_of : (glyphs : List ℕ) → ((at : Bor (List (Tag × ℤ))) → task.at ≡ Some at → ⊥) → IsTaken task bytes glyphs (font_of task bytes)
  given_of glyphs h = as_given (none_said task.at h)

  -- the static font, or the font as it is
  pub placed_of : {X : Type 0} (view : X → List ℕ) (at : List (Tag × ℤ)) (mapper glyphs : List ℕ) → option_copied task.at ≡ Some at → mapper ≡ numbering glyphs → (r : Result (Option X) Refusal)
      → IfOk r (λ made. MatchOption made (IsAtDefault (face_of task bytes) at × (IsCff2Font (face_of task bytes) → ⊥)) (λ file. IsStaticFile (face_of task bytes) at mapper (view file)))
      → IfOk r (λ made. IsTaken task bytes glyphs (taken_of task bytes (option_map view made)))
  placed_of view at mapper glyphs said m (Ok None) d = placed at (font_of task bytes) said (as_it_is d.0 d.1)
  placed_of view at mapper glyphs said m (Ok (Some file)) i =
      let there : IsStaticFile (face_of task bytes) at (numbering glyphs) (view file) = subst (λ (l : List ℕ). IsStaticFile (face_of task bytes) at l (view file)) m i in
      placed at (font_at (view file) 0 task.options.extras) said (static_of (font_of task bytes) at (numbering glyphs) (view file) there)
  placed_of view at mapper glyphs said m (Err e) h = tt

  pub untaken_by : {X : Type 0} (at : List (Tag × ℤ)) (mapper glyphs : List ℕ) → option_copied task.at ≡ Some at → mapper ≡ numbering glyphs → (r : Result X Refusal)
      → IfErr r (λ e. (e ≡ OutOfMemory) ⊎ HasStaticFault (face_of task bytes) at mapper task.options.limits.tokens task.options.limits.depth e) → IfErr r (λ e. (e ≡ OutOfMemory) ⊎ IsUntaken task bytes glyphs e)
  untaken_by at mapper glyphs said m (Ok x) h = tt
  untaken_by at mapper glyphs said m (Err e) (inl memory) = inl memory
  untaken_by at mapper glyphs said m (Err e) (inr f) = inr (unplaced at said (subst (λ (l : List ℕ). HasStaticFault (face_of task bytes) at l task.options.limits.tokens task.options.limits.depth e) m f))

  -- the glyphs leave no number for glyph 0
  pub unnumbered_at : (glyphs : List ℕ) (why : Refusal) → (why ≡ OutOfMemory) ⊎ ((why ≡ OverflowError) × HasAllAboveZero glyphs) → (why ≡ OutOfMemory) ⊎ IsUntaken task bytes glyphs why
  unnumbered_at glyphs why (inl memory) = inl memory
  unnumbered_at glyphs why (inr full) = inr (subst (IsUntaken task bytes glyphs) (sym full.0) (made.unnumbered full.1))

  -- ---- what is made of it

  module _ (picked : Picked) (asked : IsRequested (face_of task bytes) task.requested (picked_view picked)) where
    pub made_of_taken : (font : Font) → IsTaken task bytes picked.glyphs.items font → (r : Result Made Failure) → IfOk r (λ made. made.picked ≡ picked) → IfOk r (IsMadeOf task font picked.glyphs.items) → IfOk r (IsMade task bytes)
    made_of_taken font taken (Ok made) kept is = record {
      requested = subst (λ (p : Picked). IsRequested (face_of task bytes) task.requested (picked_view p)) (sym kept) asked;
      font = font;
      taken = subst (λ (p : Picked). IsTaken task bytes p.glyphs.items font) (sym kept) taken;
      is_made = subst (λ (p : Picked). IsMadeOf task font p.glyphs.items made) (sym kept) is;
    }
    made_of_taken font taken (Err e) kept is = tt

    refused_by : (why : Refusal) → HasRefusal task bytes picked.glyphs.items why → IsRefusedTask task bytes (Error why)
    refused_by why refused = record { picked = picked_view picked; requested = asked; why = why; failure_is = refl; refused = refused }

    pub refused_of_taken : (font : Font) → IsTaken task bytes picked.glyphs.items font → (r : Result Made Failure) → IfErr r (λ e. (e ≡ Error OutOfMemory) ⊎ IsRefusedFace task font picked.glyphs.items e) → IfErr r (λ e. (e ≡ Error OutOfMemory) ⊎ IsRefusedTask task bytes e)
    refused_of_taken font taken (Ok made) h = tt
    refused_of_taken font taken (Err e) (inl memory) = inl memory
    refused_of_taken font taken (Err e) (inr f) = inr (subst (IsRefusedTask task bytes) (sym f.failure_is) (refused_by f.why (of_taken font taken f.refused)))

    pub refused_untaken : (why : Refusal) → (why ≡ OutOfMemory) ⊎ IsUntaken task bytes picked.glyphs.items why → (Error why ≡ Error OutOfMemory) ⊎ IsRefusedTask task bytes (Error why)
    refused_untaken why (inl memory) = inl (ap Error memory)
    refused_untaken why (inr none) = inr (refused_by why (untaken none))

  -- no glyphs are found
  pub unasked_unmade : (failure : Failure) → (failure ≡ Error OutOfMemory) ⊎ IsUnasked (face_of task bytes) task.requested failure → IsUnmade task bytes failure
  unasked_unmade failure (inl memory) = inl memory
  unasked_unmade failure (inr unasked) = inr (inl unasked)

  -- or they are refused
  pub refused_unmade : (result : Result Made Failure) → IfErr result (λ e. (e ≡ Error OutOfMemory) ⊎ IsRefusedTask task bytes e) → IfErr result (IsUnmade task bytes)
  refused_unmade (Ok made) h = tt
  refused_unmade (Err e) (inl memory) = inl memory
  refused_unmade (Err e) (inr refused) = inr (inr refused)
