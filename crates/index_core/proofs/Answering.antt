-- What a legal answer says, in the words of the op that it answers.
use Rattle.std.proofs.Common.{◌≡◌, ◌⊎◌, ℕ, ◌+◌, ◌<◌, ◌≤◌, List, length, refl, sym, ap, ⊎_elim, ◌∙◌, subst, arith}
use Rattle.std.specs.Prelude.{slice_get, Option, Some, None, IfSome}
use Rattle.std.proofs.lemmas.Option.{slice_get_within}
use Rattle.pm_words.specs.declared.again.Again.{Again}
use Rattle.pm_words.specs.declared.again.Again.TheVariants.{NoFree, NeedsSplit}
use Rattle.pm_words.specs.declared.layout.Layout.{Layout}
use Rattle.pm_words.specs.declared.machine.Turn.{Turn}
use Rattle.pm_words.specs.declared.machine.Turn.TheVariants.{Go, Done}
use Rattle.cat_history.specs.Maps.{at}
use Rattle.cat_history.specs.Writes.{after}
use Rattle.cat_history.specs.declared.op.Change.{Change}
use Rattle.cat_history.specs.declared.op.Change.TheVariants as change
use Rattle.cat_history.specs.declared.op.NameOp.{NameOp}
use Rattle.cat_history.specs.declared.op.NameOp.TheVariants as op
use Rattle.cat_history.specs.declared.op.Write.{Write}
use Rattle.call_stages.specs.declared.once.Once.{Once}
use Rattle.call_stages.specs.declared.once.Once.TheVariants as once
use Rattle.call_stages.specs.declared.once.Placed.{Placed}
use Rattle.call_stages.specs.Kinds.{IsRefusal}
use Rattle.call_stages.specs.Stages.{Stage, Idle, Saw, Wears, Reads, Holds, Eyes, Splits, Leaves, Meets, Joins, placed_in}
use Rattle.node_ops.specs.declared.running.Running.{Running}
use Rattle.cat_history.specs.Records.{change_of}
use Rattle.node_ops.specs.Asked.{IsOf, IsAbout, op_in, name_asked}
use Rattle.node_ops.specs.RunningSteps.{running_call, running_turned, IsRunning}
use Rattle.node_ops.specs.CallStages.{stage_of, reply_of}
use Rattle.node_ops.proofs.OpLaw.{holds_own_name}
use Rattle.index_law.specs.Facts.{Facts}
use Rattle.index_law.specs.Lawful.{HasWriteAt}
use Rattle.index_law.specs.Laws.{HasNoRoom, IsCause, IsLegal}
use Rattle.index_core.specs.declared.party.PartyState.{PartyState}
use Rattle.index_core.specs.Answers.{HasOwnWrite, TookPlace, FoundNoRoom, IsAnswerOf, SaysOf}
use Rattle.node_ops.specs.Endings.{place_for, limit_in}
use Rattle.index_core.proofs.Endings.{EndsWith, ends_with}
use Rattle.index_core.proofs.Lists.{some_same}
use Rattle.index_core.proofs.Ordering.{OwnsWrites}

-- what a legal answer says of a call that has this place and began below this limit
abbrev Tells : ℕ → Facts → ℕ → ℕ → ℕ → List ℕ → Option ℕ → Option ℕ → Once Placed → Type 0
Tells slots f caller index since name limit placed (once.Done answer) =
    (since ≤ answer.place) × (answer.place ≤ length f.history) × (answer.old ≡ at (after f.base f.history answer.place) name)
    × IfSome placed (λ place. (answer.place ≡ place) × HasWriteAt f.history caller index name place)
    × IfSome limit (λ most. since < most)
Tells slots f caller index since name limit placed (once.Spent clock) = (since ≤ clock) × (clock ≤ length f.history)
Tells slots f caller index since name limit placed (once.Worn node word) = Unit {0}
Tells slots f caller index since name limit placed (once.Again why) = why ≡ NoFree → FoundNoRoom slots f.base f.history since (length f.history) name

-- no call that holds nothing is turned back for want of room
unheld : (g : ℕ) (f : Facts) (why : Again) → IsCause g f why → why ≡ NoFree → ⊥
unheld g f why cause is = subst (IsCause g f) is cause

tells : (l : Layout) (g : ℕ) (f : Facts) (caller index since : ℕ) (name : List ℕ) (stage : Stage) (answer : Once Placed) → IsLegal l g f caller index since stage (Some answer) → IsAbout name stage
    → Tells l.slots f caller index since name (limit_in stage) (placed_in stage) answer
tells l g f caller index since name Idle (once.Done answer) legal about = absurd legal
tells l g f caller index since name Idle (once.Spent clock) legal about = absurd legal
tells l g f caller index since name Idle (once.Worn node word) legal about = tt
tells l g f caller index since name Idle (once.Again why) legal about = λ is. absurd (unheld g f why legal is)
tells l g f caller index since name (Saw n v w k) (once.Done answer) legal about = absurd legal
tells l g f caller index since name (Saw n v w k) (once.Spent clock) legal about = absurd legal
tells l g f caller index since name (Saw n v w k) (once.Worn node word) legal about = tt
tells l g f caller index since name (Saw n v w k) (once.Again why) legal about = λ is. absurd (unheld g f why legal is)
tells l g f caller index since name (Wears n v) (once.Done answer) legal about = absurd legal
tells l g f caller index since name (Reads n v sight None) (once.Done answer) legal about = absurd legal
tells l g f caller index since name (Reads n v sight (Some h)) (once.Done answer) legal about =
    subst (λ (own : List ℕ). Tells l.slots f caller index since own h.limit None (once.Done answer)) about (legal.later, legal.within, legal.old, tt, legal.below)
tells l g f caller index since name (Wears n v) (once.Spent clock) legal about = absurd legal
tells l g f caller index since name (Reads n v sight None) (once.Spent clock) legal about = absurd legal
tells l g f caller index since name (Reads n v sight (Some h)) (once.Spent clock) legal about = absurd legal
tells l g f caller index since name (Wears n v) (once.Worn node word) legal about = tt
tells l g f caller index since name (Reads n v sight None) (once.Worn node word) legal about = tt
tells l g f caller index since name (Reads n v sight (Some h)) (once.Worn node word) legal about = tt
tells l g f caller index since name (Wears n v) (once.Again why) legal about = λ is. absurd (unheld g f why legal is)
tells l g f caller index since name (Reads n v sight None) (once.Again why) legal about = λ is. absurd (unheld g f why legal is)
tells l g f caller index since name (Reads n v sight (Some h)) (once.Again why) legal about = λ is. absurd (unheld g f why legal is)
tells l g f caller index since name (Eyes n w h m v u free) answer legal about = absurd legal
tells l g f caller index since name (Splits left fresh phase) answer legal about = absurd legal
tells l g f caller index since name (Meets n w h right) answer legal about = absurd legal
tells l g f caller index since name (Joins h left right pace) answer legal about = absurd legal
tells l g f caller index since name (Leaves left) (once.Done answer) legal about = absurd cc
tells l g f caller index since name (Leaves left) (once.Spent clock) legal about = absurd cc
tells l g f caller index since name (Leaves left) (once.Worn node word) legal about = tt
tells l g f caller index since name (Leaves left) (once.Again why) legal about = λ is. absurd (let both : once.Again NoFree ≡ once.Again (NeedsSplit left.node) = ap (λ (w : Again). once.Again w) (sym is) ∙ legal in cc)
tells l g f caller index since name (Holds n w h) (once.Done answer) legal about =
    subst (λ (own : List ℕ). Tells l.slots f caller index since own h.limit h.placed (once.Done answer)) about (legal.later, legal.within, legal.old, legal.write, legal.below)
tells l g f caller index since name (Holds n w h) (once.Spent clock) legal about = (legal.later, legal.within)
tells l g f caller index since name (Holds n w h) (once.Worn node word) legal about = tt
tells l g f caller index since name (Holds n w h) (once.Again why) legal about = λ is.
    let room : HasNoRoom l f since n h = no_room legal is in
    subst (FoundNoRoom l.slots f.base f.history since (length f.history)) about (record { clock = room.clock; later = room.later; within = room.within; lacked = room.lacked; many = room.many })
  where
    no_room : (h.placed ≡ None) × (((why ≡ NoFree) × HasNoRoom l f since n h) ⊎ IsRefusal why) → why ≡ NoFree → HasNoRoom l f since n h
    no_room both is = ⊎_elim (λ (full : (why ≡ NoFree) × HasNoRoom l f since n h). full.1) (λ (other : IsRefusal why). absurd (subst IsRefusal is other)) both.1

inside : (history : List Write) (caller index : ℕ) (name : List ℕ) (place : ℕ) → HasWriteAt history caller index name place → place + 1 ≤ length history
inside history caller index name place write = let within = slice_get_within history place _ write.stands in omega arith

-- the write that stands there of the call has its change
own_stands : (history : List Write) (caller index since place : ℕ) (name : List ℕ) (o : Option Change) → since ≤ place
    → ((write : Write) → slice_get history place ≡ Some write → write.caller ≡ caller → since ≤ place → o ≡ Some write.change) → HasWriteAt history caller index name place → HasOwnWrite history caller index o place
own_stands history caller index since place name None later own write = tt
own_stands history caller index since place name (Some change) later own write =
    let same : write.change ≡ change = some_same (sym (own _ write.stands refl later)) in
    subst (λ (c : Change). slice_get history place ≡ Some (record { caller = caller; index = index; change = c })) same write.stands

took_place : (slots : ℕ) (f : Facts) (caller index since : ℕ) (asked : NameOp) (limit : Option ℕ) (answer : Placed)
    → ((write : Write) → slice_get f.history answer.place ≡ Some write → write.caller ≡ caller → since ≤ answer.place → change_of asked ≡ Some write.change)
    → Tells slots f caller index since (name_asked asked) limit (place_for (change_of asked) answer.place) (once.Done answer) → TookPlace f.base f.history caller index since asked limit answer
took_place slots f caller index since (op.Get name) limit answer own is = record { later = is.0; within = is.1; below = is.4; old = is.2; write = tt }
took_place slots f caller index since (op.Put name value) limit answer own is = record {
  later = is.0;
  within = inside f.history caller index name answer.place is.3.1;
  below = is.4;
  old = is.2;
  write = own_stands f.history caller index since answer.place name (Some (change.Put name value)) is.0 own is.3.1;
}
took_place slots f caller index since (op.Del name) limit answer own is = record {
  later = is.0;
  within = inside f.history caller index name answer.place is.3.1;
  below = is.4;
  old = is.2;
  write = own_stands f.history caller index since answer.place name (Some (change.Del name)) is.0 own is.3.1;
}

answer_of : (l : Layout) (g : ℕ) (f : Facts) (e : PartyState) (m : Running) (answer : Once Placed) → IsOf (op_in m) m → IsRunning m → OwnsWrites f.history e m → EndsWith m answer
    → IsLegal l g f e.caller e.index e.since (stage_of m) (Some answer) → IsAnswerOf l.slots f.base f.history e (op_in m) (running_call m).limit answer
answer_of l g f e m (once.Done placed) of sound own ends legal =
    took_place l.slots f e.caller e.index e.since (op_in m) (running_call m).limit placed (own placed.place)
    (subst (λ (p : Option ℕ × Option ℕ). Tells l.slots f e.caller e.index e.since (name_asked (op_in m)) p.0 p.1 (once.Done placed)) (λ k. (ends.1 k, ends.0 k))
    (tells l g f e.caller e.index e.since (name_asked (op_in m)) (stage_of m) (once.Done placed) legal (holds_own_name (op_in m) m of)))
answer_of l g f e m (once.Spent clock) of sound own ends legal =
    let told = tells l g f e.caller e.index e.since (name_asked (op_in m)) (stage_of m) (once.Spent clock) legal (holds_own_name (op_in m) m of) in
    record { reached = ends.1; later = told.0; within = told.1 }
answer_of l g f e m (once.Worn node word) of sound own ends legal = tt
answer_of l g f e m (once.Again why) of sound own ends legal = λ is.
    (ends.1 is, tells l g f e.caller e.index e.since (name_asked (op_in m)) (stage_of m) (once.Again why) legal (holds_own_name (op_in m) m of) is)

-- what a step of a call comes to, where an answer is legal
pub says_of : (l : Layout) (g : ℕ) (f : Facts) (e : PartyState) (m : Running) (x : ℕ) → IsOf (op_in m) m → IsRunning m → OwnsWrites f.history e m → IsLegal l g f e.caller e.index e.since (stage_of m) (reply_of (running_turned m x))
    → SaysOf l.slots f.base f.history e (op_in m) (running_call m).limit (reply_of (running_turned m x))
says_of l g f e m x of sound own legal = at (running_turned m x) refl legal
  where
    at : (turn : Turn Running (Once Placed)) → running_turned m x ≡ turn → IsLegal l g f e.caller e.index e.since (stage_of m) (reply_of turn)
        → SaysOf l.slots f.base f.history e (op_in m) (running_call m).limit (reply_of turn)
    at (Go next) is legal = tt
    at (Done answer) is legal = answer_of l g f e m answer of sound own (ends_with m x answer sound is) legal
