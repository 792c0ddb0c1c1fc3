use Rattle.std.proofs.Common.{drop}
use Rattle.subset_lines.specs.Notes.{note_lines}
use Rattle.plain_text.proofs.Written.{Reaches}
use Rattle.subset_lines.proofs.notes.write_note_lines.Given as goal

abbrev pub invariant-loop-note : goal.invariant-loop-note
invariant-loop-note g l = Reaches (g.W.Write.contents l.fn.out) (g.W.Write.contents l.out) (note_lines (drop l.note-index l.notes)) (note_lines l.notes)
