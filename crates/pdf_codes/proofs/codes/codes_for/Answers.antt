use Rattle.std.proofs.Common.{map, ◌∙◌}
use Rattle.pdf_codes.specs.Codes.{used_of}
use Rattle.pdf_codes.proofs.RoomLaws.{refused_led, room_led}
use Rattle.pdf_codes.proofs.codes.codes_for.Goals as goal

pub returns-in_ok-glyphs-in-Consecutive-clause-room : goal.returns-in_ok-glyphs-in-Consecutive-clause-room
returns-in_ok-glyphs-in-Consecutive-clause-room c =
    room_led c.consecutive.result c.args.choice (map used_of c.args.entries.now) c.deref.result.now c.in-Consecutive.is (c.deref.ensures.value ∙ c.in_ok-glyphs-in-Consecutive.ensures.ok) c.consecutive.ensures.room

pub returns-in_ok-glyphs-in-Consecutive-clause-err : goal.returns-in_ok-glyphs-in-Consecutive-clause-err
returns-in_ok-glyphs-in-Consecutive-clause-err c =
    refused_led c.consecutive.result c.args.choice (map used_of c.args.entries.now) c.deref.result.now c.in-Consecutive.is (c.deref.ensures.value ∙ c.in_ok-glyphs-in-Consecutive.ensures.ok) c.consecutive.ensures.err
