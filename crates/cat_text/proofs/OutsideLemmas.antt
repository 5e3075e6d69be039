-- How the bytes that one read or one write moves add up, where they are told.
use Rattle.std.proofs.Common.{◌≡◌, ℕ, ◌+◌, ◌<◌, ◌≤◌, Option, List, [], ◌++◌, None, Some, IfSome, OnErr, Result, Ok, Err}
use Rattle.std.proofs.Common.{arith, length, take, drop, sym, ap, ◌∙◌, subst, append-nil, length-append, true, false, refl}
use Rattle.std.specs.Prelude.{◌↔◌}
use Rattle.std.proofs.lemmas.Bool.{false≢true}
use Rattle.std.proofs.lemmas.List.{drop-drop, length-take-le, take-append-drop}
use Rattle.std.proofs.Math.Seq.{take-append_seam}
use Rattle.std.specs.Io.KnownBytes.{Appends, Consumes, IsAtEnd, Keeps}
use Rattle.std.proofs.KnownBytes.{Appends-kept, Consumes-trans}
use Rattle.cat_text.specs.Outside.{AppendsPart, ConsumesAtMost, Moves}
use Rattle.cat_text.specs.declared.outside.fault.OutsideFault.{OutsideFault}
use Rattle.cat_text.specs.declared.outside.fault.OutsideFault.TheVariants.{Failed, NoMemory}

-- what went to the text, read by read, is what the source lost
pub Consumes-moved : (a b c : Option (List ℕ)) (before after : List ℕ) (count : ℕ)
    → Consumes a b before → Moves b c before after count → Consumes a c after
Consumes-moved a b c before after count h (taken, took, joined, _) = subst (Consumes a c) (sym joined) (Consumes-trans a b c before taken h took)

-- the text grows by as many bytes as were counted
pub length-moved : (b c : Option (List ℕ)) (before after : List ℕ) (count : ℕ) → Moves b c before after count → length after ≡ length before + count
length-moved b c before after count (taken, _, joined, counted) = omega (arith, ap length joined, length-append before taken, counted)

-- a last read that did not reach the text
pub ConsumesAtMost-more : (a b c : Option (List ℕ)) (before : List ℕ) (count most : ℕ)
    → Consumes a b before → ConsumesAtMost count b c → length before + count ≤ most → ConsumesAtMost most a c
ConsumesAtMost-more a b c before count most h (taken, took, few) fits =
    (before ++ taken, Consumes-trans a b c before taken h took, omega (arith, length-append before taken))

-- a source at its end gave all that it had, and has nothing left
pub Consumes-whole : (a b : Option (List ℕ)) (text : List ℕ) → Consumes a b text → IsAtEnd b → IfSome a (λ bytes. text ≡ bytes)
Consumes-whole None b text h end = tt
Consumes-whole (Some bytes) None text h end = absurd h
Consumes-whole (Some bytes) (Some rest) text h end = sym (h ∙ ap (λ l. text ++ l) end ∙ append-nil text)

pub Consumes-nothing_left : (a b : Option (List ℕ)) (text : List ℕ) → Consumes a b text → IsAtEnd b → IfSome a (λ _. b ≡ Some [])
Consumes-nothing_left None b text h end = tt
Consumes-nothing_left (Some bytes) None text h end = absurd h
Consumes-nothing_left (Some bytes) (Some rest) text h end = ap Some end

-- a source had at least what it gave
pub Consumes-longer : (a b : Option (List ℕ)) (text : List ℕ) (most : ℕ) → Consumes a b text → most < length text → IfSome a (λ bytes. most < length bytes)
Consumes-longer None b text most h longer = tt
Consumes-longer (Some bytes) None text most h longer = absurd h
Consumes-longer (Some bytes) (Some rest) text most h longer = omega (arith, ap length h, length-append text rest)

-- a write that fails adds nothing to what stands before the rest
pub AppendsPart-kept : (a b c : Option (List ℕ)) (text done rest : List ℕ)
    → text ≡ done ++ rest → Appends a b done → Keeps b c → 0 < length rest → AppendsPart a c text
AppendsPart-kept a b c text done rest split h kept more =
    let front : done ≡ take (length done) text = sym (ap (take (length done)) split ∙ take-append_seam done rest) in
    (length done, omega (arith, ap length split, length-append done rest), subst (Appends a c) front (Appends-kept a b c done h kept))

-- what stays steady over two stretches of calls does so over both
pub steady-on : (a b c : Type 0) (p q r : ℕ) → (a → b × (q ≡ p)) → (b → c × (r ≡ q)) → a → c × (r ≡ p)
steady-on a b c p q r first second calm =
    let then = first calm in
    let end = second then.0 in
    (end.0, end.1 ∙ then.1)

-- what holds holds of an `Err`
pub OnErr-holds : {T E : Type 0} (r : Result T E) (P : Type 0) → P → OnErr r P
OnErr-holds (Ok value) P p = tt
OnErr-holds (Err error) P p = p

-- what a read copies out of a list into the front of another, and what it leaves
pub front-moved : (xs ys : List ℕ) (place count : ℕ) → count ≤ length (drop place xs)
    → drop place xs ≡ take count (take count (drop place xs) ++ ys) ++ drop (place + count) xs
front-moved xs ys place count fits =
    let rest = drop place xs in
    let front = take count rest in
    let reads : take count (front ++ ys) ≡ front =
    subst (λ n. take n (front ++ ys) ≡ front) (length-take-le count rest fits) (take-append_seam front ys) in
    sym (ap (λ l. l ++ drop (place + count) xs) reads
    ∙ ap (λ l. front ++ l) (sym (drop-drop count place xs)) ∙ take-append-drop count rest)

-- a call that did not fail was not to fail
pub went_on : {P N : Type 0} → (P → ⊥) → ((false ≡ true) ↔ N) → P ↔ N
went_on never plan = (λ p. absurd (never p), λ n. absurd (false≢true (plan.1 n)))

-- a call that failed was to fail
pub gave_up : {P N : Type 0} → P → ((true ≡ true) ↔ N) → P ↔ N
gave_up p plan = (λ _. plan.0 refl, λ _. p)

-- an answer for want of memory is not one of a call that failed
pub no_memory : {T : Type 0} (r : Result T OutsideFault) (fault : OutsideFault) → r ≡ Err fault → fault ≡ NoMemory → r ≡ Err Failed → ⊥
no_memory r fault is lacks failed = cc

-- nor is an answer `Ok`
pub not_ok : {T : Type 0} (value : T) (r : Result T OutsideFault) → r ≡ Ok value → r ≡ Err Failed → ⊥
not_ok value r is failed = cc
