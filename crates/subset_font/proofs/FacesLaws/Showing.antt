-- What is shown of a face.
use Rattle.std.proofs.Common.{◌≡◌, ◌≢◌, ◌⊎◌, inl, inr, ℕ, ◌≤◌, Bool, List, Option, Some, None, Result, Ok, Err, sym, ap, subst, ◌∙◌}
use Rattle.std.specs.Prelude.{IfOk, IfErr, IfSome, OnOk}
use Rattle.std.specs.Io.KnownBytes.{Appends}
use Rattle.std.specs.Option.{option_map, unwrap_or}
use Rattle.subset_args.specs.Listing.Lists.{counting}
use Rattle.subset_lines.specs.declared.faces.info.face.Info.{Info}
use Rattle.subsetter_base.specs.declared.error.Error.TheVariants.{OutOfMemory}
use Rattle.subsetter_sfnt.specs.Read.{Font, header_offset}
use Rattle.subsetter_sfnt.specs.Extras.{all_extras}
use Rattle.subsetter_type2.specs.declared.limits.Limits.{Limits}
use Rattle.subset_task.specs.Making.Requested.{face_glyphs}
use Rattle.font_reasons.specs.declared.asked.Call.TheVariants.{Subset}
use Rattle.subset_font.specs.Refusals.SecondLook.{known_after}
use Rattle.subset_font.specs.Faces.Accepted.{IsPlain, IsCause, IsAnswer}
use Rattle.subset_font.specs.Faces.Info.{IsInfo, info_text, ShowsInfo, IsInfoFault}
use Rattle.subset_font.specs.Refusals.Texts.{hint_text}
use Rattle.subset_task.specs.declared.refusals.failure.Failure.{Failure}
use Rattle.subset_task.specs.declared.refusals.failure.Failure.TheVariants.{Error, Read, Output}
use Rattle.subset_font.specs.declared.refusals.hint.text.Hint.{Hint}
use Rattle.subset_task.specs.declared.task.RequestedGlyphs.TheVariants.{Every}
use Rattle.subset_task.specs.declared.task.Task.{Task}

-- the same answer, by other names of its texts
pub answered : (font : Font) (refusal reason shown following : Option (List ℕ)) → IsAnswer font refusal reason → shown ≡ refusal → following ≡ reason → IsAnswer font shown following
answered font refusal reason shown following h p q = subst (λ (text : Option (List ℕ)). IsAnswer font text following) (sym p) (subst (λ (text : Option (List ℕ)). IsAnswer font refusal text) (sym q) h)

-- the text of what is known is that of a cause
pub cause_of : {X E : Type 0} (view : X → Option (List ℕ)) (font : Font) (failure : Failure) (given : List ℕ) (limits : Limits) (task : Task) (hint : Option Hint) (maxp : Option ℕ) (count : ℕ) (items : List ℕ) (r : Result X E) → given ≡ items → items ≡ counting 0 count → count ≡ unwrap_or maxp 0 → maxp ≡ face_glyphs font → limits.tokens ≤ 1000000 → IsPlain font.index limits Every task
    → hint ≡ known_after Subset failure task given font.bytes → IfOk r (λ x. view x ≡ option_map hint_text hint) → IfOk r (λ x. IsCause font failure (view x))
cause_of view font failure given limits task hint maxp count items (Ok x) are counted or_none has few plain known text = record {
  limits = limits;
  few = few;
  task = task;
  is_plain = plain;
  is_text = text ∙ (ap (option_map hint_text) known ∙ ap (λ (all : List ℕ). option_map hint_text (known_after Subset failure task all font.bytes))
      (are ∙ (counted ∙ (ap (counting 0) or_none ∙ ap (λ (n : Option ℕ). counting 0 (unwrap_or n 0)) has))));
}
cause_of view font failure given limits task hint maxp count items (Err e) are counted or_none has few plain known text = tt

-- what is written of a font with a header is what is shown of it
pub shows_of : (json : Bool) (font : Font) (old new : Option (List ℕ)) (info : Info) (r : Result (Unit {0}) Failure) → header_offset font ≢ None → IsInfo font info → OnOk r (Appends old new (info_text json info)) → OnOk r (ShowsInfo json font old new)
shows_of json font old new info (Ok done) header is written = record { has_header = header; info = info; is_info = is; is_written = written }
shows_of json font old new info (Err e) header is written = tt

-- what holds of the bytes that were read holds of those that the reader had, where these are known
known_by : (known : Option (List ℕ)) (items bytes : List ℕ) (P : List ℕ → Type 0) → IfSome known (λ all. items ≡ all) → bytes ≡ items → P bytes → IfSome known P
known_by None items bytes P h b p = tt
known_by (Some all) items bytes P h b p = subst P h (subst P b p)

module _ (known : Option (List ℕ)) (items bytes : List ℕ) (index : ℕ) where
  pub shown_of_read : (json : Bool) (old new : Option (List ℕ)) (r : Result (Unit {0}) Failure) → IfSome known (λ all. items ≡ all) → bytes ≡ items → OnOk r (ShowsInfo json (record { bytes = bytes; index = index; extras = all_extras }) old new) → OnOk r (IfSome known (λ all. ShowsInfo json (record { bytes = all; index = index; extras = all_extras }) old new))
  shown_of_read json old new (Ok done) h b p = known_by known items bytes (λ (all : List ℕ). ShowsInfo json (record { bytes = all; index = index; extras = all_extras }) old new) h b p
  shown_of_read json old new (Err e) h b p = tt

  pub fault_of_read : (r : Result (Unit {0}) Failure) → IfSome known (λ all. items ≡ all) → bytes ≡ items → IfErr r (λ e. (e ≡ Output) ⊎ ((e ≡ Error OutOfMemory) ⊎ IsInfoFault (record { bytes = bytes; index = index; extras = all_extras }) e)) → IfErr r (λ e. (e ≡ Read) ⊎ ((e ≡ Output) ⊎ ((e ≡ Error OutOfMemory) ⊎ IfSome known (λ all. IsInfoFault (record { bytes = all; index = index; extras = all_extras }) e))))
  fault_of_read (Ok done) h b f = tt
  fault_of_read (Err e) h b (inl output) = inr (inl output)
  fault_of_read (Err e) h b (inr (inl memory)) = inr (inr (inl memory))
  fault_of_read (Err e) h b (inr (inr fault)) = inr (inr (inr (known_by known items bytes (λ (all : List ℕ). IsInfoFault (record { bytes = all; index = index; extras = all_extras }) e) h b fault)))
