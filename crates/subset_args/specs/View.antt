-- What was read of the arguments, as the definitions name it.
use Rattle.std.specs.Prelude.{ℕ, List, map, take, String, string_bytes}
use Rattle.std.specs.Global.{Global}
use Rattle.std.specs.Option.{option_copied, option_map}
use Rattle.subset_args.specs.Limits.{limits_view}
use Rattle.subset_args.specs.Forms.{Asked as AskedFor, Given as GivenValue, Options, helped, versioned, chosen}
use Rattle.subset_args.specs.Options.{GlyphSource, in_file, by_text, in_list, in_codes, Choice}
use Rattle.subset_args.specs.Request.{RequestedGlyphs, listed, every_glyph, of_characters, from, Position as Requested}
use Rattle.subset_args.specs.Request.{at_coordinates, at_instance, PdfRequest, Request, Command as Wanted, help}
use Rattle.subset_args.specs.Request.{version, subset, batch, show}
use Rattle.subset_args.specs.declared.options.names.Source.{Source}
use Rattle.subset_args.specs.declared.options.names.Source.TheVariants.{File, Text, InList, Characters as InCodes}
use Rattle.subset_args.specs.declared.options.sources.Sources.{Sources}
use Rattle.subset_args.specs.declared.options.chosen.Chosen.{Chosen}
use Rattle.subset_args.specs.declared.jobs.forms.Asked.{Asked}
use Rattle.subset_args.specs.declared.options.joined.Given.{Given}
use Rattle.subset_args.specs.declared.jobs.forms.Parsed.{Parsed}
use Rattle.subset_args.specs.declared.jobs.forms.Ending.{Ending}
use Rattle.subset_args.specs.declared.jobs.forms.Ending.TheVariants.{Help, Version, Words}
use Rattle.subset_args.specs.declared.jobs.command.Glyphs.{Glyphs}
use Rattle.subset_args.specs.declared.jobs.command.Glyphs.TheVariants.{Listed, Characters, InFile, ByText, Every}
use Rattle.subset_args.specs.declared.jobs.command.Position.{Position}
use Rattle.subset_args.specs.declared.jobs.command.Position.TheVariants.{Coordinates, Named}
use Rattle.subset_args.specs.declared.jobs.command.PdfJob.{PdfJob}
use Rattle.subset_args.specs.declared.jobs.command.Job.{Job}
use Rattle.subset_args.specs.declared.jobs.command.Command.{Command}
use Rattle.subset_args.specs.declared.jobs.command.Command.TheVariants.{Help as ForHelp, Version as ForVersion, Subset}
use Rattle.subset_args.specs.declared.jobs.command.Command.TheVariants.{Batch, Show}

abbrev pub words_view : List (String Global) → List (List ℕ)
words_view words = map (λ word. string_bytes word) words

abbrev pub source_view : Source → GlyphSource
source_view (File kind name) = in_file kind name.now
source_view (Text text) = by_text text.now
source_view (InList text) = in_list text.now
source_view (InCodes text) = in_codes text.now

abbrev pub sources_view : Sources → List GlyphSource
sources_view sources = map source_view (take sources.count sources.places)

abbrev pub chosen_view : Chosen → Choice
chosen_view c =
    record {
      switches = c.switches;
      limits = option_map limits_view c.limits;
      sources = sources_view c.sources;
      at = option_copied c.at;
      output = option_copied c.output;
      index = c.index;
      most_input = c.most_input;
      pdf = option_copied c.pdf;
      coding = c.coding;
      is_held = c.is_held;
    }

abbrev pub given_view : Given → GivenValue
given_view g = record { setting = g.setting; word = g.word.now; value = g.value.now }

abbrev pub ended_by : Ending → Choice → List (List ℕ) → Options
ended_by Help choice words = helped
ended_by Version choice words = versioned
ended_by (Words is_ended) choice words = chosen choice is_ended words

abbrev pub parsed_view : Parsed → Options
parsed_view p = ended_by p.ending (chosen_view p.chosen) (words_view p.words.now)

abbrev pub asked_view : Asked → AskedFor
asked_view a =
    record {
      choice = chosen_view a.chosen;
      input = a.input.now;
      output = option_copied a.output;
      index = a.index;
      listed = option_copied a.listed;
    }

abbrev pub requested_view : Glyphs → RequestedGlyphs
requested_view (Listed glyphs) = listed glyphs.items
requested_view Every = every_glyph
requested_view (Characters found) = of_characters found.items
requested_view (InFile kind name) = from (in_file kind (string_bytes name))
requested_view (ByText text) = from (by_text (string_bytes text))

abbrev pub position_view : Position → Requested
position_view (Coordinates at) = at_coordinates at.items
position_view (Named name) = at_instance (string_bytes name)

abbrev pub pdf_view : PdfJob → PdfRequest
pdf_view pdf = record { file = string_bytes pdf.file; choice = pdf.choice }

abbrev pub job_view : Job → Request
job_view job =
    record {
      switches = job.switches;
      limits = option_map limits_view job.limits;
      input = string_bytes job.input;
      output = option_map (λ name. string_bytes name) job.output;
      index = job.index;
      most_input = job.most_input;
      glyphs = map requested_view job.glyphs.items;
      position = option_map position_view job.position;
      pdf = option_map pdf_view job.pdf;
      by_option = job.by_option;
    }

abbrev pub command_view : Command → Wanted
command_view ForHelp = help
command_view ForVersion = version
command_view (Subset job) = subset (job_view job)
command_view (Batch file) = batch (string_bytes file)
command_view (Show topic json input index) = show topic json (string_bytes input) index
