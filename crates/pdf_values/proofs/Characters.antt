-- What characters a PostScript name has.
use Rattle.std.proofs.Common.{◌≡◌, ℕ, Bool, true, false, List, [], ◌∷◌, refl, sym, subst}
use Rattle.std.specs.Prelude.{◌&&◌, ◌==◌, if◌then◌else◌, All, Option, Some, None}
use Rattle.std.specs.Option.{option_and_then, option_map_or}
use Rattle.std.proofs.lemmas.List.Elements.{All-nil, All-cons, filter_passes}
use Rattle.pdf_values.specs.Name.{is_name_character, plain_text, wide_text, text_of, string_of, text_in, table_name, postscript_name, IsNameText}
use Rattle.subsetter_base.specs.Texts.{or_else}
use Rattle.pdf_values.specs.declared.naming.Kind.{Kind}
use Rattle.pdf_values.specs.declared.naming.Kind.TheVariants.{WindowsEnglish, Windows, Unicode, MacintoshRoman}

abbrev Passes : ℕ → Type 0
Passes b = is_name_character b ≡ true

second : (a b : Bool) → (a && b) ≡ true → b ≡ true
second true b h = h
second false b h = absurd cc

one_more : (test : Bool) (b : ℕ) (text : List ℕ) → (test ≡ true → Passes b) → All Passes text → All Passes (if test then b ∷ text else text)
one_more true b text p h = All-cons Passes b text (p refl) h
one_more false b text p h = h

plain_passes : (bytes : List ℕ) → All Passes (plain_text bytes)
plain_passes bytes = filter_passes is_name_character bytes

wide_passes : (bytes : List ℕ) → All Passes (wide_text bytes)
wide_passes [] = All-nil Passes
wide_passes (b ∷ []) = All-nil Passes
wide_passes (high ∷ low ∷ bytes) = one_more (high == 0 && is_name_character low) low (wide_text bytes) (second (high == 0) (is_name_character low)) (wide_passes bytes)

text_passes : (kind : Kind) (bytes : List ℕ) → All Passes (text_of kind bytes)
text_passes MacintoshRoman bytes = plain_passes bytes
text_passes WindowsEnglish bytes = wide_passes bytes
text_passes Windows bytes = wide_passes bytes
text_passes Unicode bytes = wide_passes bytes

said_passes : (f : List ℕ → List ℕ) (o : Option (List ℕ)) → ((bytes : List ℕ) → All Passes (f bytes)) → All Passes (option_map_or f o [])
said_passes f None h = All-nil Passes
said_passes f (Some bytes) h = h bytes

or_passes : (text other : List ℕ) → All Passes text → All Passes other → All Passes (or_else text other)
or_passes [] other h g = g
or_passes (b ∷ bytes) other h g = h

in_passes : (kind : Kind) (id : ℕ) (name : Option (List ℕ)) → All Passes (text_in kind id name)
in_passes kind id name = said_passes (text_of kind) (option_and_then (string_of kind id) name) (text_passes kind)

pub table_passes : (id : ℕ) (name : Option (List ℕ)) → IsNameText (table_name id name)
table_passes id name = or_passes _ _ (or_passes _ _ (or_passes _ _ (in_passes WindowsEnglish id name) (in_passes Windows id name)) (in_passes Unicode id name)) (in_passes MacintoshRoman id name)

pub name_passes : (name cff : Option (List ℕ)) → IsNameText (postscript_name name cff)
name_passes name cff = or_passes (table_name 6 name) (option_map_or plain_text cff []) (table_passes 6 name) (said_passes plain_text cff plain_passes)

pub named : (name cff : Option (List ℕ)) (text : List ℕ) → text ≡ postscript_name name cff → IsNameText text
named name cff text e = subst IsNameText (sym e) (name_passes name cff)
