use Rattle.std.proofs.Common.{◌≡◌, ℕ, ◌⊎◌, List, length, None, subst}
use Rattle.std.specs.Prelude.{IfOk, IfErr}
use Rattle.subsetter_base.specs.Bytes.{IsBytes}
use Rattle.subsetter_base.specs.declared.error.Error.TheVariants.{OutOfMemory}
use Rattle.subsetter_cff.specs.Write.Again.{AreAll}
use Rattle.subsetter.specs.Limits.{token_limit, depth_limit}
use Rattle.subsetter_sfnt.specs.Read.{as_font}
use Rattle.cid_embed.specs.Again.{IsTrueTypeOrCidKeyed}
use Rattle.cid_embed.specs.Shrink.{OfEachSource, IsShrunk, IsGivenBack}
use Rattle.cid_embed.proofs.AgainLaws.Shrunk.{for_ok, for_err, is_shrunk, is_given_back, no_fault_for_all}
use Rattle.cid_embed.specs.Embed.{numbering, IsEmbeddingAnswer, HasEmbedFaultWithin, IsEmbedPromised}
use Rattle.cid_embed.specs.Width.{HasWidthFault}
use Rattle.cid_embed.proofs.Promises.{refused_by_font}
use Rattle.cid_embed.proofs.FewerCids.{some_numbered, unknown_cid, only_widths}
use Rattle.cid_embed.proofs.shrinking.shrink.Goals as goal

pub returns-clause-promise : goal.returns-clause-promise
returns-clause-promise c = subst (λ (g : List ℕ). IsEmbedPromised None token_limit depth_limit (as_font g) c.args.cids.now c.embed.result) c.font_of.ensures.font c.embed.ensures.promise

pub returns-clause-shrunk : goal.returns-clause-shrunk
returns-clause-shrunk c =
    let given = c.args.e.now.font.items in
    let cids = c.args.cids.now in
    let seen = c.font_of.result.now in
    subst (λ (g : List ℕ). IfOk c.embed.result (λ s. IsShrunk g (numbering cids) s.font.items)) c.font_of.ensures.font
    (for_ok c.embed.result (λ s. IsEmbeddingAnswer token_limit depth_limit (as_font seen) cids s) (λ s. IsShrunk seen (numbering cids) s.font.items) (λ s x. is_shrunk seen (numbering cids) s.font.items (some_numbered cids) x.embedded.subset) c.embed.ensures.promise.exact)

pub returns-clause-given_back : goal.returns-clause-given_back
returns-clause-given_back c =
    let cids = c.args.cids.now in
    let seen = c.font_of.result.now in
    subst (λ (g : List ℕ). IfOk c.embed.result (λ s. IsGivenBack g (numbering cids) s.font.items)) c.font_of.ensures.font
    (for_ok c.embed.result (λ s. IsEmbeddingAnswer token_limit depth_limit (as_font seen) cids s) (λ s. IsGivenBack seen (numbering cids) s.font.items) (λ s x. is_given_back seen (numbering cids) s.font.items (some_numbered cids) x.embedded.subset) c.embed.ensures.promise.exact)

pub returns-clause-sound : goal.returns-clause-sound
returns-clause-sound c =
    let fit : IsBytes c.args.e.now.font.items = subst IsBytes c.font_of.ensures.font c.font_of.ensures.bytes in
    no_fault_for_all c.args.e.now.font.items (numbering c.args.cids.now) fit (some_numbered c.args.cids.now)

pub returns-clause-only_widths : goal.returns-clause-only_widths
returns-clause-only_widths c =
    let given = c.args.e.now.font.items in
    let cids = c.args.cids.now in
    let seen = c.font_of.result.now in
    subst (λ (g : List ℕ). IfErr c.embed.result (λ why. OfEachSource g (λ source first. AreAll (length first) (numbering cids) → IsTrueTypeOrCidKeyed source → (why ≡ OutOfMemory) ⊎ HasWidthFault (as_font g) why))) c.font_of.ensures.font
    (for_err c.embed.result (λ why. (why ≡ OutOfMemory) ⊎ ((order : List ℕ) × HasEmbedFaultWithin None token_limit depth_limit (as_font seen) cids order why))
    (λ why. OfEachSource seen (λ source first. AreAll (length first) (numbering cids) → IsTrueTypeOrCidKeyed source → (why ≡ OutOfMemory) ⊎ HasWidthFault (as_font seen) why)) (λ why found. only_widths seen cids why c.font_of.ensures.bytes (refused_by_font token_limit depth_limit (as_font seen) cids why found)) c.embed.ensures.promise.err)

pub returns-clause-unknown : goal.returns-clause-unknown
returns-clause-unknown c = unknown_cid c.args.e.now.font.items c.args.cids.now
