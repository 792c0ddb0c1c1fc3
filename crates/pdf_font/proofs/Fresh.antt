-- A new font is opened, and is of its source's kind.
use Rattle.std.proofs.Common.{◌≡◌, ℕ, ◌/◌, List, length, Option, Some, Result, Ok, sym, ap, ◌∙◌}
use Rattle.std.specs.Option.{option_and_then, option_map_or, ok_or}
use Rattle.subsetter_base.specs.Bytes.{number, ◌>>=◌}
use Rattle.subsetter_base.specs.declared.error.Error.{Error}
use Rattle.subsetter_base.specs.declared.error.Error.TheVariants.{UnknownKind, MalformedFont}
use Rattle.subsetter_base.proofs.Options.{map_some}
use Rattle.subsetter_sfnt.specs.Container.{IsSoundContainer}
use Rattle.subsetter_sfnt.specs.Plain.{opened, opened_by_kind, opened_header}
use Rattle.subsetter_sfnt.specs.Read.{as_font, directory_records, header_by_kind, header_offset, kind_of, records, records_at, stored, table_in}
use Rattle.subsetter_sfnt.specs.Laying.Written.{kind_word}
use Rattle.subsetter_sfnt.specs.declared.flavor.FontFlavor.{FontFlavor}
use Rattle.subsetter_sfnt.specs.declared.flavor.FontFlavor.TheVariants.{TrueType, Cff}
use Rattle.pdf_source.specs.Program.{flavor_by, flavor_in}

opened_at : (kind : FontFlavor) (file : List ℕ) → number file 0 4 ≡ Some (kind_word kind) → opened_header (as_font file) ≡ Ok 0
unfolding opened_header
opened_at TrueType file h = ap (λ (o : Option ℕ). ok_or (option_and_then kind_of o) UnknownKind >>= λ kind. opened_by_kind kind (as_font file)) h
opened_at Cff file h = ap (λ (o : Option ℕ). ok_or (option_and_then kind_of o) UnknownKind >>= λ kind. opened_by_kind kind (as_font file)) h

placed : (kind : FontFlavor) (file : List ℕ) → number file 0 4 ≡ Some (kind_word kind) → header_offset (as_font file) ≡ Some 0
unfolding header_offset
placed TrueType file h = ap (λ o. option_and_then (λ k. header_by_kind k (as_font file)) (option_and_then kind_of o)) h
placed Cff file h = ap (λ o. option_and_then (λ k. header_by_kind k (as_font file)) (option_and_then kind_of o)) h

from_header : (file d : List ℕ) → opened_header (as_font file) ≡ Ok 0 → records_at file 0 ≡ Some d → opened (as_font file) ≡ Ok d
unfolding opened
from_header file d h r = ap (λ (at : Result ℕ Error). at >>= λ k. ok_or (records_at file k) MalformedFont) h ∙ ap (λ (o : Option (List ℕ)). ok_or o MalformedFont) r

-- its directory, among whose records its tables are found
pub record Opens (file : List ℕ) : Type 0 where
  pub directory : List ℕ
  pub opens : opened (as_font file) ≡ Ok directory
  pub find : table_in file directory ≡ stored (as_font file)

pub new_opens : (kind : FontFlavor) (tags : List (List ℕ)) (file : List ℕ) → IsSoundContainer file (kind_word kind) tags → Opens file
new_opens kind tags file c =
    let k = map_some (λ bytes. directory_records (length bytes / 16) bytes) (records (as_font file)) c.records c.read in
    let at : records_at file 0 ≡ Some k.0 = sym (ap (option_and_then (λ p. records_at file p)) (placed kind file c.kind_is)) ∙ k.1 in
    record {
      directory = k.0;
      opens = from_header file k.0 (opened_at kind file c.kind_is) at;
      find = ap (λ (o : Option (List ℕ)). λ (tag : List ℕ). option_and_then (λ directory. table_in file directory tag) o) (sym k.1);
    }

pub same_flavor : (kind : FontFlavor) (file : List ℕ) → number file 0 4 ≡ Some (kind_word kind) → flavor_in file ≡ kind
same_flavor TrueType file h = ap (λ (o : Option ℕ). option_map_or flavor_by o TrueType) h
same_flavor Cff file h = ap (λ (o : Option ℕ). option_map_or flavor_by o TrueType) h
