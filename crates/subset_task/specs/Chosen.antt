-- What the options before IN choose for a task.
use Rattle.std.specs.Prelude.{◌≡◌, ◌⊎◌, ℕ, ℤ, List, [], ◌∷◌, map, not, false, if◌then◌else◌, IsSome, Option, Some, None}
use Rattle.std.specs.Prelude.{string_bytes}
use Rattle.std.specs.Option.{option_copied, option_and_then, option_map}
use Rattle.subsetter.specs.Limits.{token_limit, depth_limit}
use Rattle.subsetter_sfnt.specs.declared.extras.Extras.{Extras}
use Rattle.subsetter_type2.specs.declared.limits.Limits.{Limits}
use Rattle.subset_args.specs.declared.limits.RunLimits.{RunLimits}
use Rattle.subset_args.specs.declared.options.chosen.Switches.{Switches}
use Rattle.subset_args.specs.declared.jobs.command.Glyphs.{Glyphs}
use Rattle.subset_args.specs.declared.jobs.command.Glyphs.TheVariants.{Listed, Characters as ListedCharacters, InFile}
use Rattle.subset_args.specs.declared.jobs.command.Glyphs.TheVariants.{ByText as InText, Every as WholeFace}
use Rattle.subset_args.specs.declared.jobs.command.Job.{Job}
use Rattle.subset_args.specs.declared.jobs.command.Position.{Position}
use Rattle.subset_args.specs.declared.jobs.command.Position.TheVariants.{Coordinates, Named}
use Rattle.subsetter_base.specs.declared.tag.Tag.{Tag}
use Rattle.subset_args.specs.declared.listing.lists.GlyphList.{GlyphList}
use Rattle.subset_args.specs.declared.listing.lists.GlyphList.TheVariants.{Every as EveryGlyph, These as TheseGlyphs}
use Rattle.subset_args.specs.declared.listing.lists.GlyphList.TheVariants.{Characters as TheseCharacters}
use Rattle.subset_args.specs.declared.listing.lists.GlyphList.TheVariants.{Text as OfText}
use Rattle.subset_task.specs.declared.task.RequestedGlyphs.{RequestedGlyphs}
use Rattle.subset_task.specs.declared.task.RequestedGlyphs.TheVariants.{These, Every, ByText, ByCharacters}
use Rattle.subsetter_base.specs.declared.error.Error.TheVariants.{OutOfMemory}
use Rattle.subset_task.specs.declared.refusals.failure.Failure.{Failure}
use Rattle.subset_task.specs.declared.refusals.failure.Failure.TheVariants.{Error as Refused, List as WrongList}
use Rattle.subset_task.specs.declared.refusals.failure.Failure.TheVariants.{ReadList}
use Rattle.subset_task.specs.Files.{file_at}
use Rattle.subset_task.specs.declared.task.Plan.{Plan}
use Rattle.subset_task.specs.declared.task.Task.{Task}
use Rattle.subset_task.specs.declared.task.Form.{Form}
use Rattle.subset_task.specs.declared.task.Form.TheVariants.{Lines, Json, Silence}

-- the limits that are said, else the default ones
abbrev pub LimitsAreChosen : Option RunLimits → Limits → Type 0
LimitsAreChosen (Some said) limits =
    (limits.tokens ≡ said.tokens) × (limits.depth ≡ said.depth) × (limits.bytes ≡ said.bytes)
LimitsAreChosen None limits = (limits.tokens ≡ token_limit) × (limits.depth ≡ depth_limit) × (limits.bytes ≡ None)

-- all that isn't declined; with `--small` none of it
abbrev pub extras_chosen : Switches → Extras
extras_chosen s =
    if s.small then record { hinting = false; names = false; glyph_names = false }
    else record { hinting = not s.no_hinting; names = not s.no_names; glyph_names = not s.no_glyph_names }

-- `--quiet` goes before `--json`
abbrev pub form_chosen : Switches → Form
form_chosen s = if s.quiet then Silence else if s.json then Json else Lines

-- which glyphs are kept: these, every one of the face, or those of a text's characters or of these characters
pub data KeptGlyphs : Type 0 where
  these : List ℕ → KeptGlyphs
  every : KeptGlyphs
  by_text : List ℕ → KeptGlyphs
  by_characters : List ℕ → KeptGlyphs

abbrev pub kept_of : RequestedGlyphs → KeptGlyphs
kept_of (These glyphs) = these glyphs.now
kept_of Every = every
kept_of (ByText text) = by_text text.now
kept_of (ByCharacters given) = by_characters given.now

-- a list was read where a file has it
abbrev pub IsListFor : Glyphs → Option GlyphList → Type 0
IsListFor (Listed glyphs) list = Unit {0}
IsListFor (InText text) list = Unit {0}
IsListFor WholeFace list = Unit {0}
IsListFor (ListedCharacters given) list = Unit {0}
IsListFor (InFile kind name) (Some list) = Unit {0}
IsListFor (InFile kind name) None = ⊥

-- for each of them
abbrev pub AreListsFor : List Glyphs → List (Option GlyphList) → Type 0
AreListsFor [] [] = Unit {0}
AreListsFor [] (list ∷ lists) = ⊥
AreListsFor (one ∷ glyphs) [] = ⊥
AreListsFor (one ∷ glyphs) (list ∷ lists) = IsListFor one list × AreListsFor glyphs lists

-- why none was read: the file of a place can't be read or has no such list, or memory ran out
abbrev pub IsUnlistedAt : ℕ → Failure → Type 0
IsUnlistedAt place failure =
    (failure ≡ ReadList place) ⊎ ((failure ≡ WrongList place) ⊎ (failure ≡ Refused OutOfMemory))

-- the same of one of the files
pub data IsUnlisted (glyphs : List Glyphs) (failure : Failure) : Type 0 where
  in_file : (place : ℕ) → IsUnlistedAt place failure → IsSome (file_at glyphs place) → IsUnlisted glyphs failure
  no_memory : failure ≡ Refused OutOfMemory → IsUnlisted glyphs failure

-- those that a file requests
abbrev pub kept_by : GlyphList → KeptGlyphs
kept_by EveryGlyph = every
kept_by (TheseGlyphs glyphs) = these glyphs.items
kept_by (TheseCharacters given) = by_characters given.items
kept_by (OfText text) = by_text (string_bytes text)

-- those that the arguments list, or the file that was read for it
abbrev pub kept_for : Glyphs → Option GlyphList → KeptGlyphs
kept_for (Listed glyphs) list = these glyphs.items
kept_for (InText text) list = by_text (string_bytes text)
kept_for WholeFace list = every
kept_for (ListedCharacters given) list = by_characters given.items
kept_for (InFile kind name) (Some list) = kept_by list
kept_for (InFile kind name) None = these []

-- those of one after another
abbrev pub kept_by_each : List Glyphs → List (Option GlyphList) → List KeptGlyphs
kept_by_each [] lists = []
kept_by_each (one ∷ glyphs) [] = []
kept_by_each (one ∷ glyphs) (list ∷ lists) = kept_for one list ∷ kept_by_each glyphs lists

-- the coordinates that are given, or the name of an instance
abbrev pub at_chosen : Position → Option (List (Tag × ℤ))
at_chosen (Coordinates at) = Some at.items
at_chosen (Named name) = None

abbrev pub instance_chosen : Position → Option (List ℕ)
instance_chosen (Coordinates at) = None
instance_chosen (Named name) = Some (string_bytes name)

-- the task that a job requests, where these glyphs are kept
pub record IsTaskOf (job : Job) (kept : List KeptGlyphs) (task : Task) : Type 0 where
  pub glyphs : map kept_of task.requested.pieces.now ≡ kept
  pub strict : task.requested.is_strict ≡ job.switches.strict
  pub index : task.index ≡ job.index
  pub limits : LimitsAreChosen job.limits task.options.limits
  pub extras : task.options.extras ≡ extras_chosen job.switches
  pub widths : task.widths ≡ job.switches.widths
  pub form : task.form ≡ form_chosen job.switches
  pub at : option_copied task.at ≡ option_and_then at_chosen job.position

-- the plan that a job requests, where these glyphs are kept
pub record IsPlanOf (job : Job) (kept : List KeptGlyphs) (plan : Plan) : Type 0 where
  pub task : IsTaskOf job kept plan.task
  pub instance : option_copied plan.instance ≡ option_and_then instance_chosen job.position
  pub verbose : plan.verbose ≡ job.switches.verbose
  pub pdf : plan.pdf ≡ option_map (λ p. p.choice) job.pdf
  pub by_option : plan.by_option ≡ job.by_option
