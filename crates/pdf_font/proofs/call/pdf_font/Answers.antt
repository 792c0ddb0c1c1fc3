use Rattle.std.proofs.Common.{◌≡◌, true, false, sym, ap, subst, ◌∙◌, inr}
use Rattle.subsetter_base.specs.declared.error.Error.TheVariants.{OutOfMemory}
use Rattle.subsetter_variable.specs.Subset.{HasOpeningFaultAt}
use Rattle.subsetter_sfnt.specs.FontAt.{font_at}
use Rattle.subsetter_sfnt.specs.Read.{Font}
use Rattle.subsetter_sfnt.specs.declared.extras.Extras.{Extras}
use Rattle.pdf_codes.specs.Shown.{has_long_text, uses_of}
use Rattle.pdf_values.specs.Permission.{is_permitted}
use Rattle.pdf_values.specs.declared.permission.Permission.{Permission}
use Rattle.pdf_font.specs.Opened.{IsOpened}
use Rattle.pdf_font.specs.PdfFont.{font_of, lacks_outlines}
use Rattle.pdf_font.proofs.Refused.{bare_final, first_bare, first_forbidden, first_long, first_none, first_unopened, forbidden, forbidden_final, named, not_memory, of_bare, permission_found, too_long, too_long_final, unopened, unopened_final}
use Rattle.pdf_font.proofs.call.pdf_font.Goals as goal

pub returns-then-lacks_outlines-clause-err : goal.returns-then-lacks_outlines-clause-err
returns-then-lacks_outlines-clause-err c =
    let font : Font = font_of c.args.«data».now c.args.index c.args.options.now in
    let lacks : lacks_outlines font ≡ true = sym c.lacks_outlines.ensures ∙ c.if-lacks_outlines.true in
    inr (of_bare font c.args.coordinates.now c.args.options.now (uses_of c.args.shown.now) lacks)

pub returns-then-lacks_outlines-clause-no_answer : goal.returns-then-lacks_outlines-clause-no_answer
returns-then-lacks_outlines-clause-no_answer c =
    let font : Font = font_of c.args.«data».now c.args.index c.args.options.now in
    let lacks : lacks_outlines font ≡ true = sym c.lacks_outlines.ensures ∙ c.if-lacks_outlines.true in
    inr (bare_final font c.args.coordinates.now c.args.options.now (uses_of c.args.shown.now) lacks)

pub returns-then-lacks_outlines-clause-first : goal.returns-then-lacks_outlines-clause-first
returns-then-lacks_outlines-clause-first c =
    let font : Font = font_of c.args.«data».now c.args.index c.args.options.now in
    let lacks : lacks_outlines font ≡ true = sym c.lacks_outlines.ensures ∙ c.if-lacks_outlines.true in
    first_bare font c.args.coordinates.now c.args.options.now (uses_of c.args.shown.now) lacks

pub returns-in-Err-clause-err : goal.returns-in-Err-clause-err
returns-in-Err-clause-err c =
    let font : Font = font_of c.args.«data».now c.args.index c.args.options.now in
    let fault = subst (λ (x : Extras). HasOpeningFaultAt (font_at c.args.«data».now c.args.index x) c.in-Err.error) c.extras.ensures c.in-Err.ensures.err in
    inr (unopened font c.args.coordinates.now c.args.options.now (uses_of c.args.shown.now) c.in-Err.error fault)

pub returns-in-Err-clause-no_answer : goal.returns-in-Err-clause-no_answer
returns-in-Err-clause-no_answer c =
    let font : Font = font_of c.args.«data».now c.args.index c.args.options.now in
    let fault = subst (λ (x : Extras). HasOpeningFaultAt (font_at c.args.«data».now c.args.index x) c.in-Err.error) c.extras.ensures c.in-Err.ensures.err in
    inr (unopened_final font c.args.coordinates.now c.args.options.now (uses_of c.args.shown.now) c.in-Err.error fault)

pub returns-in-Err-clause-before_memory : goal.returns-in-Err-clause-before_memory
returns-in-Err-clause-before_memory c =
    let font : Font = font_of c.args.«data».now c.args.index c.args.options.now in
    let fault = subst (λ (x : Extras). HasOpeningFaultAt (font_at c.args.«data».now c.args.index x) c.in-Err.error) c.extras.ensures c.in-Err.ensures.err in
    λ e f h. not_memory font c.in-Err.error fault (let m : c.in-Err.error ≡ OutOfMemory = cc in m)

pub returns-in-Err-clause-first : goal.returns-in-Err-clause-first
returns-in-Err-clause-first c =
    let font : Font = font_of c.args.«data».now c.args.index c.args.options.now in
    let fault = subst (λ (x : Extras). HasOpeningFaultAt (font_at c.args.«data».now c.args.index x) c.in-Err.error) c.extras.ensures c.in-Err.ensures.err in
    let other : lacks_outlines font ≡ false = sym c.lacks_outlines.ensures ∙ c.if-lacks_outlines.false in
    first_unopened font c.args.coordinates.now c.args.options.now (uses_of c.args.shown.now) other c.in-Err.error fault

pub returns-then-not-is_permitted-clause-err : goal.returns-then-not-is_permitted-clause-err
returns-then-not-is_permitted-clause-err c =
    let font : Font = font_of c.args.«data».now c.args.index c.args.options.now in
    let opened = subst (λ (x : Extras). IsOpened (font_at c.args.«data».now c.args.index x) c.in-Ok.face) c.extras.ensures c.in-Ok.ensures.ok in
    let is = permission_found font c.in-Ok.face opened c.stored.result c.new.result.0 c.permission_of-permission.result c.new.ensures c.stored.ensures c.permission_of-permission.ensures in
    let no : is_permitted c.permission_of-permission.result c.args.options.now.rights ≡ false = sym c.is_permitted.ensures ∙ c.if-not-is_permitted.true in
    inr (forbidden font c.args.coordinates.now c.args.options.now (uses_of c.args.shown.now) c.permission_of-permission.result is no)

pub returns-then-not-is_permitted-clause-no_answer : goal.returns-then-not-is_permitted-clause-no_answer
returns-then-not-is_permitted-clause-no_answer c =
    let font : Font = font_of c.args.«data».now c.args.index c.args.options.now in
    let opened = subst (λ (x : Extras). IsOpened (font_at c.args.«data».now c.args.index x) c.in-Ok.face) c.extras.ensures c.in-Ok.ensures.ok in
    let is = permission_found font c.in-Ok.face opened c.stored.result c.new.result.0 c.permission_of-permission.result c.new.ensures c.stored.ensures c.permission_of-permission.ensures in
    let no : is_permitted c.permission_of-permission.result c.args.options.now.rights ≡ false = sym c.is_permitted.ensures ∙ c.if-not-is_permitted.true in
    inr (forbidden_final font c.args.coordinates.now c.args.options.now (uses_of c.args.shown.now) c.permission_of-permission.result is no)

pub returns-then-not-is_permitted-clause-before_memory : goal.returns-then-not-is_permitted-clause-before_memory
returns-then-not-is_permitted-clause-before_memory c =
    let opened = subst (λ (x : Extras). IsOpened (font_at c.args.«data».now c.args.index x) c.in-Ok.face) c.extras.ensures c.in-Ok.ensures.ok in
    λ e f h. opened.clean e f

pub returns-then-not-is_permitted-clause-first : goal.returns-then-not-is_permitted-clause-first
returns-then-not-is_permitted-clause-first c =
    let font : Font = font_of c.args.«data».now c.args.index c.args.options.now in
    let opened = subst (λ (x : Extras). IsOpened (font_at c.args.«data».now c.args.index x) c.in-Ok.face) c.extras.ensures c.in-Ok.ensures.ok in
    let is = permission_found font c.in-Ok.face opened c.stored.result c.new.result.0 c.permission_of-permission.result c.new.ensures c.stored.ensures c.permission_of-permission.ensures in
    let no : is_permitted c.permission_of-permission.result c.args.options.now.rights ≡ false = sym c.is_permitted.ensures ∙ c.if-not-is_permitted.true in
    first_forbidden font c.args.coordinates.now c.args.options.now (uses_of c.args.shown.now) opened.clean c.permission_of-permission.result is no

pub returns-then-has_long_text-clause-err : goal.returns-then-has_long_text-clause-err
returns-then-has_long_text-clause-err c =
    let font : Font = font_of c.args.«data».now c.args.index c.args.options.now in
    let long : has_long_text (uses_of c.args.shown.now) ≡ true = sym c.has_long_text.ensures ∙ c.if-has_long_text.true in
    inr (too_long font c.args.coordinates.now c.args.options.now (uses_of c.args.shown.now) long)

pub returns-then-has_long_text-clause-no_answer : goal.returns-then-has_long_text-clause-no_answer
returns-then-has_long_text-clause-no_answer c =
    let font : Font = font_of c.args.«data».now c.args.index c.args.options.now in
    let long : has_long_text (uses_of c.args.shown.now) ≡ true = sym c.has_long_text.ensures ∙ c.if-has_long_text.true in
    inr (too_long_final font c.args.coordinates.now c.args.options.now (uses_of c.args.shown.now) long)

pub returns-then-has_long_text-clause-before_memory : goal.returns-then-has_long_text-clause-before_memory
returns-then-has_long_text-clause-before_memory c =
    let opened = subst (λ (x : Extras). IsOpened (font_at c.args.«data».now c.args.index x) c.in-Ok.face) c.extras.ensures c.in-Ok.ensures.ok in
    λ e f h. opened.clean e f

pub returns-then-has_long_text-clause-first : goal.returns-then-has_long_text-clause-first
returns-then-has_long_text-clause-first c =
    let font : Font = font_of c.args.«data».now c.args.index c.args.options.now in
    let opened = subst (λ (x : Extras). IsOpened (font_at c.args.«data».now c.args.index x) c.in-Ok.face) c.extras.ensures c.in-Ok.ensures.ok in
    let is = permission_found font c.in-Ok.face opened c.stored.result c.new.result.0 c.permission_of-permission.result c.new.ensures c.stored.ensures c.permission_of-permission.ensures in
    let yes : is_permitted c.permission_of-permission.result c.args.options.now.rights ≡ true = sym c.is_permitted.ensures ∙ c.if-not-is_permitted.false in
    first_long font c.args.coordinates.now c.args.options.now (uses_of c.args.shown.now) opened.clean c.permission_of-permission.result is yes

pub made-requires : goal.made-requires
made-requires c =
    subst (λ (x : Extras). IsOpened (font_at c.args.«data».now c.args.index x) c.in-Ok.face) c.extras.ensures c.in-Ok.ensures.ok

pub returns-in-Ok-made-clause-ok : goal.returns-in-Ok-made-clause-ok
returns-in-Ok-made-clause-ok c =
    let font : Font = font_of c.args.«data».now c.args.index c.args.options.now in
    let opened = subst (λ (x : Extras). IsOpened (font_at c.args.«data».now c.args.index x) c.in-Ok.face) c.extras.ensures c.in-Ok.ensures.ok in
    let is = permission_found font c.in-Ok.face opened c.stored.result c.new.result.0 c.permission_of-permission.result c.new.ensures c.stored.ensures c.permission_of-permission.ensures in
    let yes : is_permitted c.permission_of-permission.result c.args.options.now.rights ≡ true = sym c.is_permitted.ensures ∙ c.if-not-is_permitted.false in
    let short : has_long_text (uses_of c.args.shown.now) ≡ false = sym c.has_long_text.ensures ∙ c.if-has_long_text.false in
    record {
      made = c.in-Ok-made.ensures.ok;
      permission = c.in-Ok-made.ensures.permission ∙ is;
      permitted = ap (λ (x : Permission). is_permitted x c.args.options.now.rights) c.in-Ok-made.ensures.permission ∙ yes;
      short = short;
    }

pub returns-in-Ok-made-clause-before_memory : goal.returns-in-Ok-made-clause-before_memory
returns-in-Ok-made-clause-before_memory c =
    let opened = subst (λ (x : Extras). IsOpened (font_at c.args.«data».now c.args.index x) c.in-Ok.face) c.extras.ensures c.in-Ok.ensures.ok in
    λ e f h. opened.clean e f

pub returns-in-Ok-made-clause-first : goal.returns-in-Ok-made-clause-first
returns-in-Ok-made-clause-first c =
    let font : Font = font_of c.args.«data».now c.args.index c.args.options.now in
    let opened = subst (λ (x : Extras). IsOpened (font_at c.args.«data».now c.args.index x) c.in-Ok.face) c.extras.ensures c.in-Ok.ensures.ok in
    let is = permission_found font c.in-Ok.face opened c.stored.result c.new.result.0 c.permission_of-permission.result c.new.ensures c.stored.ensures c.permission_of-permission.ensures in
    let yes : is_permitted c.permission_of-permission.result c.args.options.now.rights ≡ true = sym c.is_permitted.ensures ∙ c.if-not-is_permitted.false in
    let short : has_long_text (uses_of c.args.shown.now) ≡ false = sym c.has_long_text.ensures ∙ c.if-has_long_text.false in
    first_none font c.args.coordinates.now c.args.options.now (uses_of c.args.shown.now) opened.clean c.permission_of-permission.result is yes short _

pub returns-in-Err-made-clause-err : goal.returns-in-Err-made-clause-err
returns-in-Err-made-clause-err c =
    named c.in-Err-made.error c.in-Err-made.ensures.err

pub returns-in-Err-made-clause-no_answer : goal.returns-in-Err-made-clause-no_answer
returns-in-Err-made-clause-no_answer c =
    named c.in-Err-made.error c.in-Err-made.ensures.no_answer

pub returns-in-Err-made-clause-before_memory : goal.returns-in-Err-made-clause-before_memory
returns-in-Err-made-clause-before_memory c =
    let opened = subst (λ (x : Extras). IsOpened (font_at c.args.«data».now c.args.index x) c.in-Ok.face) c.extras.ensures c.in-Ok.ensures.ok in
    λ e f h. opened.clean e f

pub returns-in-Err-made-clause-first : goal.returns-in-Err-made-clause-first
returns-in-Err-made-clause-first c =
    let font : Font = font_of c.args.«data».now c.args.index c.args.options.now in
    let opened = subst (λ (x : Extras). IsOpened (font_at c.args.«data».now c.args.index x) c.in-Ok.face) c.extras.ensures c.in-Ok.ensures.ok in
    let is = permission_found font c.in-Ok.face opened c.stored.result c.new.result.0 c.permission_of-permission.result c.new.ensures c.stored.ensures c.permission_of-permission.ensures in
    let yes : is_permitted c.permission_of-permission.result c.args.options.now.rights ≡ true = sym c.is_permitted.ensures ∙ c.if-not-is_permitted.false in
    let short : has_long_text (uses_of c.args.shown.now) ≡ false = sym c.has_long_text.ensures ∙ c.if-has_long_text.false in
    first_none font c.args.coordinates.now c.args.options.now (uses_of c.args.shown.now) opened.clean c.permission_of-permission.result is yes short _
