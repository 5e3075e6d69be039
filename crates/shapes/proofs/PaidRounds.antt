-- Lone rounds under a limit.
use Rattle.std.proofs.Common.{◌≡◌, ℕ, ◌≤◌, ◌↔◌, List, [], ◌∷◌, arith}
use Rattle.cat_history.specs.Maps.{Map}
use Rattle.cat_history.specs.LoneRounds.{HoldsAlong, IsAnswerNow, IsSpent}
use Rattle.cat_history.specs.Rounds.{IsWriter}
use Rattle.cat_history.specs.declared.op.Op.{Op}
use Rattle.cat_history.specs.declared.op.Op.TheVariants.{Put, Get, Del, Scan}
use Rattle.cat_history.specs.declared.record.Record.{Record}
use Rattle.cat_history.specs.declared.record.Reply.{Reply}
use Rattle.cat_history.specs.declared.record.Reply.TheVariants.{Old, Parts, Full, Spent, Cut, Unstarted}
use Rattle.shapes.specs.Anchors.{Anchors}
use Rattle.shapes.specs.Runs.{Standing, stands_after, ComesLate, IsFullInTime, TimelyRoundsArePaid, opening}
use Rattle.shapes.specs.ShapeRounds.{PutsFull}
use Rattle.shapes.specs.Weights.{IsShape}
use Rattle.shapes.proofs.RoundLemmas.{AreCalls, OneCall, made, one-call, round_in_shape}
use Rattle.shapes.proofs.RunLemmas.{late_is}

module _ (slots nodes limit : ℕ) (m : Map) (anchors : Anchors) (place : ℕ) (enough : 2 ≤ slots) (shape : IsShape slots nodes m anchors) (caller index : ℕ) where
  abbrev here : Standing
  here = record { map = m; anchors = anchors; place = place }

  -- what the record must keep, of a call and its reply
  abbrev Told : Op → Reply → Type 0
  Told op reply = IsAnswerNow m place op reply × (IsSpent reply ↔ (IsWriter op × (limit ≤ place)))
      × ((reply ≡ Full) ↔ ((ComesLate limit here op → ⊥) × PutsFull slots nodes m anchors op))

  -- a call that isn't refused comes in time
  in-time : (op : Op) (reply : Reply) → Told op reply → (IsSpent reply → ⊥) → OneCall slots nodes m anchors (made caller index op reply)
  in-time op reply told unspent =
      one-call slots nodes m anchors enough shape caller index op reply place told.0
      ((λ is. (told.2.0 is).1), (λ full. told.2.1 ((λ late. unspent (told.1.1 ((late_is limit here op).0 late))), full)))

  one-record : (op : Op) (reply : Reply) → Told op reply → OneCall slots nodes m anchors (made caller index op reply)
  one-record op (Old old at_place) told = in-time op (Old old at_place) told (λ spent. spent)
  one-record op (Parts parts cut) told = in-time op (Parts parts cut) told (λ spent. spent)
  one-record op Full told = in-time op Full told (λ spent. spent)
  one-record (Put name value) (Spent clock) told =
      record { shape = shape; weighs = omega arith; names = omega arith; paid = λ full. absurd (let is : Spent clock ≡ Full = full in cc) }
  one-record (Get name) (Spent clock) told = absurd told.0.0
  one-record (Del name) (Spent clock) told =
      record { shape = shape; weighs = omega arith; names = omega arith; paid = λ full. absurd (let is : Spent clock ≡ Full = full in cc) }
  one-record (Scan from count) (Spent clock) told = absurd told.0.0
  one-record op (Cut mark) told = absurd told.0
  one-record op Unstarted told = absurd told.0

timely-calls : (slots nodes limit : ℕ) (s : Standing) (records : List Record) → 2 ≤ slots → HoldsAlong (λ m place r. IsAnswerNow m place r.op r.reply) s.map s.place records →
    HoldsAlong (λ m place r. IsSpent r.reply ↔ (IsWriter r.op × (limit ≤ place))) s.map s.place records → IsFullInTime slots nodes limit s records → AreCalls slots nodes s.map s.anchors records
timely-calls slots nodes limit s [] enough answers spent full = tt
timely-calls slots nodes limit s (r ∷ records) enough answers spent full = (
  λ shape. one-record slots nodes limit s.map s.anchors s.place enough shape r.caller r.index r.op r.reply (answers.0, spent.0, full.0),
  timely-calls slots nodes limit (stands_after slots s r) records enough answers.1 spent.1 full.1,
)

pub timely_rounds_are_paid : TimelyRoundsArePaid
timely_rounds_are_paid slots nodes limit base anchors records enough shape answers spent full =
    round_in_shape slots nodes base anchors records shape (timely-calls slots nodes limit (opening base anchors) records enough answers spent full)
