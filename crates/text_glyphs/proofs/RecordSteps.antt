-- One more encoding record.
use Rattle.std.proofs.Common.{◌≡◌, ℕ, suc, ◌+◌, ◌-◌, ◌*◌, ◌<◌, ◌≤◌, List, Some, None, ap, ◌∙◌, arith}
use Rattle.subsetter_base.specs.Options.{first_of}
use Rattle.text_glyphs.specs.Choice.{encoded_from, encoded_table}
use Rattle.text_glyphs.specs.Sequences.{sequences_from, sequences_table}
use Rattle.text_glyphs.specs.declared.encodings.Encoding.{Encoding}

left : (n i : ℕ) → i < n → n - i ≡ suc (n - (i + 1))
left n i h = omega arith

none_left : (n i : ℕ) → n ≤ i → n - i ≡ 0
none_left n i h = omega arith

module _ (encoding : Encoding) (cmap : List ℕ) (n i : ℕ) where
  encoded_step : i < n → encoded_from encoding cmap (n - i) (4 + 8 * i) ≡ first_of (encoded_table encoding cmap (4 + 8 * i)) (encoded_from encoding cmap (n - (i + 1)) (4 + 8 * (i + 1)))
  unfolding encoded_from
  encoded_step h =
      let next : 4 + 8 * i + 8 ≡ 4 + 8 * (i + 1) = omega arith in
      ap (λ k. encoded_from encoding cmap k (4 + 8 * i)) (left n i h) ∙ ap (λ at. first_of (encoded_table encoding cmap (4 + 8 * i)) (encoded_from encoding cmap (n - (i + 1)) at)) next

  pub encoded_here : {table : List ℕ} → encoded_table encoding cmap (4 + 8 * i) ≡ Some table → i < n → encoded_from encoding cmap (n - i) (4 + 8 * i) ≡ Some table
  encoded_here s h = encoded_step h ∙ ap (λ found. first_of found (encoded_from encoding cmap (n - (i + 1)) (4 + 8 * (i + 1)))) s

  pub encoded_on : encoded_table encoding cmap (4 + 8 * i) ≡ None → i < n → encoded_from encoding cmap (n - i) (4 + 8 * i) ≡ encoded_from encoding cmap (n - (i + 1)) (4 + 8 * (i + 1))
  encoded_on s h = encoded_step h ∙ ap (λ found. first_of found (encoded_from encoding cmap (n - (i + 1)) (4 + 8 * (i + 1)))) s

  pub encoded_end : n ≤ i → encoded_from encoding cmap (n - i) (4 + 8 * i) ≡ None
  unfolding encoded_from
  encoded_end h = ap (λ k. encoded_from encoding cmap k (4 + 8 * i)) (none_left n i h)

module _ (cmap : List ℕ) (n i : ℕ) where
  sequences_step : i < n → sequences_from cmap (n - i) (4 + 8 * i) ≡ first_of (sequences_table cmap (4 + 8 * i)) (sequences_from cmap (n - (i + 1)) (4 + 8 * (i + 1)))
  unfolding sequences_from
  sequences_step h =
      let next : 4 + 8 * i + 8 ≡ 4 + 8 * (i + 1) = omega arith in
      ap (λ k. sequences_from cmap k (4 + 8 * i)) (left n i h) ∙ ap (λ at. first_of (sequences_table cmap (4 + 8 * i)) (sequences_from cmap (n - (i + 1)) at)) next

  pub sequences_here : {table : List ℕ} → sequences_table cmap (4 + 8 * i) ≡ Some table → i < n → sequences_from cmap (n - i) (4 + 8 * i) ≡ Some table
  sequences_here s h = sequences_step h ∙ ap (λ found. first_of found (sequences_from cmap (n - (i + 1)) (4 + 8 * (i + 1)))) s

  pub sequences_on : sequences_table cmap (4 + 8 * i) ≡ None → i < n → sequences_from cmap (n - i) (4 + 8 * i) ≡ sequences_from cmap (n - (i + 1)) (4 + 8 * (i + 1))
  sequences_on s h = sequences_step h ∙ ap (λ found. first_of found (sequences_from cmap (n - (i + 1)) (4 + 8 * (i + 1)))) s

  pub sequences_end : n ≤ i → sequences_from cmap (n - i) (4 + 8 * i) ≡ None
  unfolding sequences_from
  sequences_end h = ap (λ k. sequences_from cmap k (4 + 8 * i)) (none_left n i h)
