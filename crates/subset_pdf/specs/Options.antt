-- What the options of a command line choose of a font.
use Rattle.std.specs.Prelude.{Bool, true, false, Option, Some, None}
use Rattle.subset_args.specs.declared.options.names.Coding.{Coding}
use Rattle.subset_args.specs.declared.options.names.Coding.TheVariants.{Consecutive, Source, Text}
use Rattle.subset_args.specs.declared.options.chosen.PdfChoice.{PdfChoice}
use Rattle.subsetter_type2.specs.declared.limits.Limits.{Limits}
use Rattle.pdf_codes.specs.declared.codes.Codes.{Codes}
use Rattle.pdf_codes.specs.declared.codes.Codes.TheVariants.{Consecutive as InOrder, Source as AsInSource, EachText}
use Rattle.pdf_values.specs.declared.looks.bounds.Bounds.TheVariants.{Font}
use Rattle.pdf_values.specs.declared.permission.Rights.{Rights}
use Rattle.pdf_values.specs.declared.permission.Rights.TheVariants.{AsSaid, Held}
use Rattle.pdf_source.specs.declared.choice.ProgramChoice.TheVariants.{Smallest}
use Rattle.pdf_source.specs.declared.choice.Direction.{Direction}
use Rattle.pdf_source.specs.declared.choice.Direction.TheVariants.{Horizontal, Vertical}
use Rattle.pdf_source.specs.declared.choice.FontOptions.{FontOptions}
use Rattle.subset_pdf.specs.declared.options.PdfRequest.{PdfRequest}

-- in order of use, where nothing is said
abbrev pub codes_by : Option Coding → Codes
codes_by None = InOrder
codes_by (Some Consecutive) = InOrder
codes_by (Some Source) = AsInSource
codes_by (Some Text) = EachText

abbrev pub direction_by : Bool → Direction
direction_by true = Vertical
direction_by false = Horizontal

abbrev pub rights_by : Bool → Rights
rights_by true = Held
rights_by false = AsSaid

-- of CFF the table alone, the font's box, no CIDSet, and the computed tag
abbrev pub options_by : Limits → Bool → PdfChoice → FontOptions
options_by limits hinting choice =
    record {
      limits = limits;
      hinting = hinting;
      program = Smallest;
      codes = codes_by choice.coding;
      direction = direction_by choice.vertical;
      bounds = Font;
      cid_set = false;
      tag = None;
      rights = rights_by choice.is_held;
    }

abbrev pub options_of : PdfRequest → FontOptions
options_of request = options_by request.limits request.hinting request.choice
