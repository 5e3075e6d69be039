-- Parts that callers were answered: that they stay known, and that one is known as it is answered.
use Rattle.std.proofs.Common.{◌≡◌, ℕ, zero, suc, List, [], ◌∷◌, ◌++◌, length, refl, sym, ap, ◌∙◌, subst}
use Rattle.std.specs.Prelude.{Option, Some, IfSome}
use mathlib.Core.Option.{some, some-injective, some-ne-none}
use lib.ListN.{get_elem?}
use Rattle.cat_history.specs.declared.op.NameOp.TheVariants as op
use Rattle.pm_words.specs.declared.machine.Turn.{Turn}
use Rattle.pm_words.specs.declared.machine.Turn.TheVariants.{Go, Done}
use Rattle.call_stages.specs.declared.once.Once.{Once}
use Rattle.call_stages.specs.declared.once.Once.TheVariants as once
use Rattle.node_ops.specs.declared.part.Part.{Part}
use Rattle.node_ops.specs.declared.part.PartWords.{PartWords}
use Rattle.node_ops.specs.declared.running.Running.{Running}
use Rattle.node_ops.specs.declared.running.Running.TheVariants.{Getting, Putting, Deleting, Parting}
use Rattle.node_ops.specs.Asked.{name_asked, op_in}
use Rattle.node_ops.specs.Calls.{name_in}
use Rattle.node_ops.specs.Parts.{Confirms}
use Rattle.node_ops.specs.PartSteps.{part_call, part_count, part_turned}
use Rattle.node_ops.specs.RunningSteps.{Sound, count_in, listed_in}
use Rattle.node_ops.proofs.PartListing.{listed_is_told}
use Rattle.node_ops.proofs.Rechecks.{parts_are_few}
use Rattle.index_core.specs.declared.party.PartyState.{PartyState}
use Rattle.index_core.specs.Indexes.{Index, IsIndex, told, stepped_index}
use Rattle.index_core.proofs.Lists.{some_same}
use Rattle.index_core.proofs.Rechecks.{parts_become_known, steps_keep_known}
use Rattle.pac_index.specs.declared.rule.AnsweredPart.{AnsweredPart}
use Rattle.pac_index.specs.Kept.{HasPart, IsPartKnown, KnowsStill, answered_now, known_part, part_answered}

-- lists of parts
pub there_front : (xs ys : List AnsweredPart) → KnowsStill xs (xs ++ ys)
there_front [] ys j a at = absurd (some-ne-none a (sym at))
there_front (x ∷ xs) ys zero a at = at
there_front (x ∷ xs) ys (suc j) a at = there_front xs ys j a at

there_last : (xs : List AnsweredPart) (a : AnsweredPart) → get_elem? (xs ++ a ∷ []) (length xs) ≡ some a
there_last [] a = refl
there_last (x ∷ xs) a = there_last xs a

pub each_both : (P : AnsweredPart → Type 0) (xs ys : List AnsweredPart) → ((j : ℕ) (a : AnsweredPart) → get_elem? xs j ≡ some a → P a) → ((j : ℕ) (a : AnsweredPart) → get_elem? ys j ≡ some a → P a)
    → (j : ℕ) (a : AnsweredPart) → get_elem? (xs ++ ys) j ≡ some a → P a
each_both P [] ys left right j a at = right j a at
each_both P (x ∷ xs) ys left right zero a at = left 0 a at
each_both P (x ∷ xs) ys left right (suc j) a at = each_both P xs ys (λ n. left (suc n)) right j a at

-- what is known still, where the list is the same or a longer one
pub still_same : (old new : List AnsweredPart) → new ≡ old → KnowsStill old new
still_same old new same j a at = subst (λ (l : List AnsweredPart). get_elem? l j ≡ some a) (sym same) at

pub still_longer : (first old new more : List AnsweredPart) → KnowsStill first old → new ≡ old ++ more → KnowsStill first new
still_longer first old new more still longer j a at = subst (λ (l : List AnsweredPart). get_elem? l j ≡ some a) (sym longer) (there_front old more j a (still j a at))

pub has_last : (old new : List AnsweredPart) (a : AnsweredPart) → new ≡ old ++ a ∷ [] → HasPart new a
has_last old new a is = (length old, subst (λ (l : List AnsweredPart). get_elem? l (length old) ≡ some a) (sym is) (there_last old a))

-- the part that is answered now
pub answered_here : (m : Running) (x count : ℕ) (low : List ℕ) (words : PartWords) → count_in m ≡ Some count → op_in m ≡ op.Get low → listed_in m ≡ Some words → Confirms m x words → answered_now m x ≡ record { low = low; count = count; words = words } ∷ []
answered_here (Getting get) x count low words counts asked lists same = absurd (cc)
answered_here (Putting put) x count low words counts asked lists same = absurd (cc)
answered_here (Deleting del) x count low words counts asked lists same = absurd (cc)
answered_here (Parting p) x count low words counts asked lists same =
    let named : name_in (part_call p) ≡ low = ap name_asked asked in
    let counted : part_count p ≡ count = some_same counts in
    ap (part_answered p) (listed_is_told p words lists x same) ∙ (λ k. record { low = named k; count = counted k; words = words } ∷ [])

-- it is known once its machine has made its turn
module _ (s : Index) (i : ℕ) (e : PartyState) (is : IsIndex s) (there : get_elem? s.states i ≡ some e) where
  pub answered_known : (m : Running) → e.machine ≡ Some m → (j : ℕ) (a : AnsweredPart) → get_elem? (answered_now m (told s m)) j ≡ some a → IsPartKnown (stepped_index s i e m s.spare) a
  answered_known (Getting get) flies j a at = absurd (some-ne-none a (sym at))
  answered_known (Putting put) flies j a at = absurd (some-ne-none a (sym at))
  answered_known (Deleting del) flies j a at = absurd (some-ne-none a (sym at))
  answered_known (Parting p) flies j a at = of_turn (part_turned p (told s (Parting p))) refl j a at
    where
      next : Index
      next = stepped_index s i e (Parting p) s.spare

      sound : Sound s.layout s.generation (Parting p)
      sound = subst (λ (o : Option Running). IfSome o (Sound s.layout s.generation)) flies (is.states i e there).machine

      of_turn : (turn : Turn Part (Once PartWords)) → part_turned p (told s (Parting p)) ≡ turn → (j : ℕ) (a : AnsweredPart) → get_elem? (part_answered p turn) j ≡ some a → IsPartKnown next a
      of_turn (Go q) done j a at = absurd (some-ne-none a (sym at))
      of_turn (Done (once.Done words)) done zero a at = subst (λ (b : AnsweredPart). IsPartKnown next b) (some-injective _ _ at) (
        parts_become_known s i e p words is there flies done,
        parts_are_few s.layout s.generation p (told s (Parting p)) words sound done,
      )
      of_turn (Done (once.Done words)) done (suc j) a at = absurd (some-ne-none a (sym at))
      of_turn (Done (once.Spent clock)) done j a at = absurd (some-ne-none a (sym at))
      of_turn (Done (once.Worn node word)) done j a at = absurd (some-ne-none a (sym at))
      of_turn (Done (once.Again why)) done j a at = absurd (some-ne-none a (sym at))

  -- and what was known before is known still
  pub known_on : (m : Running) → e.machine ≡ Some m → (a : AnsweredPart) → IsPartKnown s a → IsPartKnown (stepped_index s i e m s.spare) a
  known_on m flies a known = (steps_keep_known s i e m (known_part a) is there flies known.0, known.1)
