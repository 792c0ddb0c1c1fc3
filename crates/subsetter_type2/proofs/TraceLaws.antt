-- The laws of the run, in terms of traces.
use Rattle.std.proofs.Common.{◌≡◌, ℕ, ◌≤◌, List, Some, Ok, refl, sym, ap, subst}
use Rattle.subsetter_type2.specs.Runs.Machine.{Library, Trace, Outcome, Finishes, Stops, outcome, trace_of, trace}
use Rattle.subsetter_type2.specs.Flat.{flat, bytes_of, flat_form}
use Rattle.subsetter_type2.proofs.Playback.{plays_back}
use Rattle.subsetter_type2.proofs.TraceLimits.{same_trace}

finishes : (o : Outcome) (u : Trace) → trace_of o ≡ Some u → o ≡ Finishes u
finishes (Finishes t) u e = let p : t ≡ u = cc in ap Finishes p
finishes (Stops error) u e = absurd (cc)

pub trace_back : (library other : Library) (tokens depth other_depth : ℕ) (charstring : List ℕ) (u : Trace)
    → 1 ≤ other_depth → trace library tokens depth charstring ≡ Some u → trace other tokens other_depth (flat u) ≡ Some u
trace_back library other tokens depth other_depth charstring u d e =
    ap trace_of (plays_back library other tokens depth other_depth charstring u d (finishes (outcome library tokens depth charstring) u e))

-- the trace after these bytes
traced : (o : Outcome) (bytes : List ℕ) → bytes_of o ≡ Ok bytes → (u : Trace) × (trace_of o ≡ Some u) × (bytes ≡ flat u)
traced (Finishes u) bytes e = (u, refl, cc)
traced (Stops error) bytes e = absurd (cc)

pub keeps_trace : (library other : Library) (tokens depth other_depth : ℕ) (charstring bytes : List ℕ)
    → 1 ≤ other_depth → flat_form library tokens depth charstring ≡ Ok bytes
    → (u : Trace) × (trace library tokens depth charstring ≡ Some u) × (trace other tokens other_depth bytes ≡ Some u) × (bytes ≡ flat u)
keeps_trace library other tokens depth other_depth charstring bytes d e =
    let t = traced (outcome library tokens depth charstring) bytes e in
    let back = trace_back library other tokens depth other_depth charstring t.0 d t.1 in
    (t.0, t.1, subst (λ b. trace other tokens other_depth b ≡ Some t.0) (sym t.2) back, t.2)

pub one_trace : (library : Library) (tokens more depth deeper : ℕ) (charstring : List ℕ) (u v : Trace)
    → trace library tokens depth charstring ≡ Some u → trace library more deeper charstring ≡ Some v → u ≡ v
one_trace library tokens more depth deeper charstring u v e f =
    same_trace library tokens more depth deeper charstring u v
    (finishes (outcome library tokens depth charstring) u e) (finishes (outcome library more deeper charstring) v f)
