-- How many numbers a list has, by its kind.
use Rattle.std.specs.Prelude.{ℕ, List, Option, None}
use Rattle.subset_args.specs.Listing.Lists.{Ends, ends_in}
use Rattle.subset_args.specs.Listing.Characters.{codes_in}
use Rattle.subset_args.specs.declared.listing.lists.FileKind.{FileKind}
use Rattle.subset_args.specs.declared.listing.lists.FileKind.TheVariants.{Glyphs, Characters, Text}

-- the ends that a part writes; a text has no numbers
abbrev pub ends_by : FileKind → List ℕ → Option Ends
ends_by Glyphs part = ends_in part
ends_by Characters part = codes_in part
ends_by Text part = None
