use Rattle.std.proofs.Common.{◌≡◌, ℕ, List, ◌++◌, append_assoc, ap, ◌∙◌}
use Rattle.subsetter_sfnt.proofs.face.TableRecordWriteable.write.Goals as goal

-- four writes in turn
four : (w a b c d w1 w2 w3 w4 : List ℕ) → w1 ≡ w ++ a → w2 ≡ w1 ++ b → w3 ≡ w2 ++ c → w4 ≡ w3 ++ d → w4 ≡ w ++ (a ++ b ++ c ++ d)
four w a b c d w1 w2 w3 w4 h1 h2 h3 h4 = rw (h4, h3, h2, h1) (simp append_assoc)

pub returns-clause-ok : goal.returns-clause-ok
returns-clause-ok c = four _ _ _ _ _ _ _ _ _ (c.in_ok-extend.ensures.ok ∙ ap (λ (l : List ℕ). c.args.w.now ++ l) c.get.ensures) c.in_ok-write.ensures.ok c.in_ok-write-2.ensures.ok c.in_ok-write-3.ensures.ok
