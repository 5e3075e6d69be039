-- What calls on one name were told, as looks.
use Rattle.std.proofs.Common.{◌↔◌, ℕ, Option, Some, None, List, [], ◌∷◌, All}
use Rattle.std.specs.Prelude.{IfSome}
use Rattle.std.specs.List.{AllByRecursion, cons_option}
use Rattle.std.specs.List.Sorted.{IsPermutation}
use Rattle.std.proofs.lemmas.List.Elements.{All-from_recursion, recursion_from_All}
use Rattle.std.proofs.lemmas.List.Sorted.{All-permutation, IsPermutation-sym}
use Rattle.cat_history.specs.Maps.{Map}
use Rattle.cat_history.specs.declared.op.Op.{Op}
use Rattle.cat_history.specs.declared.op.Op.TheVariants.{Put, Get, Del, Scan}
use Rattle.cat_history.specs.declared.record.Record.{Record}
use Rattle.cat_history.specs.declared.record.Reply.{Reply}
use Rattle.cat_history.specs.declared.record.Reply.TheVariants.{Old, Parts, Full, Spent, Cut, Unstarted}
use Rattle.transcript.specs.Looks.{IsRight, look_told, look_of, looks_of}
use Rattle.transcript.specs.Rules.{TellsItsNumber}
use Rattle.transcript.specs.declared.looks.Look.{Look}

module _ (map_at : ℕ → Map) where
  abbrev Tells : Record → Type 0
  Tells r = TellsItsNumber map_at r.op r.reply

  one_look : (op : Op) (reply : Reply) → TellsItsNumber map_at op reply ↔ IfSome (look_told op reply) (IsRight map_at)
  one_look (Put name value) (Old old place) = (λ h. h, λ h. h)
  one_look (Get name) (Old old place) = (λ h. h, λ h. h)
  one_look (Del name) (Old old place) = (λ h. h, λ h. h)
  one_look (Scan from count) (Old old place) = (λ h. h, λ h. h)
  one_look op (Parts parts cut) = (λ h. h, λ h. h)
  one_look op Full = (λ h. h, λ h. h)
  one_look op (Spent clock) = (λ h. h, λ h. h)
  one_look op (Cut mark) = (λ h. h, λ h. h)
  one_look op Unstarted = (λ h. h, λ h. h)

  with_look : (o : Option Look) (looks : List Look) → IfSome o (IsRight map_at) → AllByRecursion (IsRight map_at) looks → AllByRecursion (IsRight map_at) (cons_option o looks)
  with_look None looks here rest = rest
  with_look (Some look) looks here rest = (here, rest)

  of_look : (o : Option Look) (looks : List Look) → AllByRecursion (IsRight map_at) (cons_option o looks) → IfSome o (IsRight map_at) × AllByRecursion (IsRight map_at) looks
  of_look None looks all = (tt, all)
  of_look (Some look) looks all = (all.0, all.1)

  told_right : (told : List Record) → AllByRecursion Tells told → AllByRecursion (IsRight map_at) (looks_of told)
  told_right [] all = tt
  told_right (r ∷ told) all = with_look (look_of r) (looks_of told) ((one_look r.op r.reply).0 all.0) (told_right told all.1)

  right_told : (told : List Record) → AllByRecursion (IsRight map_at) (looks_of told) → AllByRecursion Tells told
  right_told [] all = tt
  right_told (r ∷ told) all = let parts = of_look (look_of r) (looks_of told) all in ((one_look r.op r.reply).1 parts.0, right_told told parts.1)

  -- the looks, in any order, are right exactly where the records tell the numbers of the map
  pub looks_are : (told : List Record) (looks : List Look) → IsPermutation (looks_of told) looks → All (IsRight map_at) looks ↔ All (λ (r : Record). TellsItsNumber map_at r.op r.reply) told
  looks_are told looks moved = (
    λ right.
        All-from_recursion Tells told (right_told told (recursion_from_All (IsRight map_at) (looks_of told) (All-permutation (IsRight map_at) looks (looks_of told) (IsPermutation-sym (looks_of told) looks moved) right))),
    λ tells.
        All-permutation (IsRight map_at) (looks_of told) looks moved (All-from_recursion (IsRight map_at) (looks_of told) (told_right told (recursion_from_All Tells told tells))),
  )
