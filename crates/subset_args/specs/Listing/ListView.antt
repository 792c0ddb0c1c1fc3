-- What was read of a list, as the definitions name it.
use Rattle.subset_args.specs.Listing.Lists.{Ends as Between, FileList, every, these, characters, text_of}
use Rattle.std.specs.Prelude.{string_bytes}
use Rattle.subset_args.specs.declared.listing.characters.Codes.{Codes}
use Rattle.subset_args.specs.declared.listing.lists.Ends.{Ends}
use Rattle.subset_args.specs.declared.listing.lists.GlyphList.{GlyphList}
use Rattle.subset_args.specs.declared.listing.lists.GlyphList.TheVariants.{Every, These, Characters, Text}

abbrev pub ends_view : Ends → Between
ends_view ends = record { first = ends.first; last = ends.last }

abbrev pub codes_view : Codes → Between
codes_view codes = record { first = codes.first; last = codes.last }

abbrev pub list_view : GlyphList → FileList
list_view Every = every
list_view (These glyphs) = these glyphs.items
list_view (Characters found) = characters found.items
list_view (Text text) = text_of (string_bytes text)
