use Rattle.std.proofs.Common.{ℕ, List, All, ap, ◌∙◌, subst, arith, rules}
use Rattle.std.proofs.lemmas.Option.{slice_get_within, get_or_from_slice_get}
use Rattle.std.proofs.lemmas.List.Elements.{All-get_or}
use Rattle.cat_key.specs.Names.{IsName, IsNameByte, IsFirstBad, bytes_of}
use Rattle.cat_key.proofs.Packing.{packed_from_name, bytes_of-words_of}
use Rattle.cat_key.proofs.Name.read.Goals as goal

-- past the three tests the text is a name
named : (c : goal.After-packed) → IsName c.args.text.now
named c = record { some = search rules; fits = omega arith; bytes = search rules }

no_first_bad : (text : List ℕ) (at byte : ℕ) → All IsNameByte text → IsFirstBad text at byte → ⊥
no_first_bad text at byte all fault =
    let here : IsNameByte byte =
    subst IsNameByte (get_or_from_slice_get text at byte 0 fault.here) (All-get_or IsNameByte text at 0 (slice_get_within text at byte fault.here) all) in
    fault.bad here

pub invariant_of-result : goal.invariant_of-result
invariant_of-result c = rw c.packed.ensures (packed_from_name c.args.text.now (named c))

pub returns-clause-same : goal.returns-clause-same
returns-clause-same c = ap bytes_of c.packed.ensures ∙ bytes_of-words_of c.args.text.now (named c)

pub returns-clause-byte : goal.returns-clause-byte
returns-clause-byte c =
    λ at byte. (λ same. cc, λ fault. absurd (no_first_bad c.args.text.now at byte (named c).bytes fault.1))
