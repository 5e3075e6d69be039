-- Legal scans are those whose parts follow one another and list what the maps at their places have.
use Rattle.std.proofs.Common.{◌≡◌, ◌↔◌, ℕ, ◌-◌, ◌⊎◌, inl, inr, Bool, true, false, Option, Some, None, List, [], ◌∷◌, ◌++◌, length, refl, sym, subst, All}
use Rattle.std.specs.List.{AllByRecursion}
use Rattle.std.proofs.lemmas.Bool.{false≢true}
use Rattle.cat_history.specs.Maps.{Map}
use Rattle.cat_history.specs.Scans.{IsPart, IsLastPart, AreParts}
use Rattle.cat_history.specs.Scans.AreParts.{cut_off, ends, goes_on}
use Rattle.cat_history.specs.declared.op.Op.{Op}
use Rattle.cat_history.specs.declared.op.Op.TheVariants.{Put, Get, Del, Scan}
use Rattle.cat_history.specs.declared.record.Record.{Record}
use Rattle.cat_history.specs.declared.record.Reply.{Reply}
use Rattle.cat_history.specs.declared.record.Reply.TheVariants.{Old, Parts, Full, Spent, Cut, Unstarted}
use Rattle.cat_history.specs.declared.record.ScanPart.{ScanPart}
use Rattle.std.proofs.lemmas.List.Elements.{All-from_recursion, recursion_from_All}
use Rattle.transcript.specs.Chains.{Begins, WhatFollows, AreChained, IsChained, ListsFirst, parts_left, parts_of_reply, parts_told}
use Rattle.transcript.specs.Rules.{TellsItsParts}

module _ (map_at : ℕ → Map) where
  abbrev Lists : ℕ × ScanPart → Type 0
  Lists look = ListsFirst map_at look

  begins_so : (low : List ℕ) (left place : ℕ) (part : ScanPart) → IsPart map_at low left place part → Begins low place part
  begins_so low left place part is = record { begins = is.begins; bounds = is.bounds; later = is.later }

  is_so : (low : List ℕ) (left place : ℕ) (part : ScanPart) → Begins low place part → Lists (left, part) → IsPart map_at low left place part
  is_so low left place part begins lists = record { begins = begins.begins; bounds = begins.bounds; later = begins.later; lists = lists }

  some_none : {X : Type 0} (x : X) → Some x ≡ None → ⊥
  some_none x e = cc

  -- nothing follows the last part
  ended : (low : List ℕ) (left place : ℕ) (part : ScanPart) (high : Option (List ℕ)) → (length part.pairs ≡ left) ⊎ (high ≡ None) →
      WhatFollows (λ goes low left place. AreChained false goes low left place []) low left place part high
  ended low left place part None last = refl
  ended low left place part (Some high) (inl many) = inr (many, refl)
  ended low left place part (Some high) (inr none) = absurd (some_none high none)

  chained_so : (low : List ℕ) (left place : ℕ) (cut : Bool) (parts : List ScanPart) → AreParts map_at low left place cut parts → AreChained cut true low left place parts × AllByRecursion Lists (parts_left left parts)
  chained_so low left place cut parts cut_off = (refl, tt)
  chained_so low left place cut parts (ends {part = part} is last) = ((refl, begins_so low left place part is, ended low left place part part.high last), (is.lists, tt))
  chained_so low left place cut parts (goes_on {part = part} {parts = more} high is less bound later) =
      let rest = chained_so high (left - length part.pairs) part.place cut more later in (
        (
          refl,
          begins_so low left place part is,
          subst (WhatFollows (λ goes low left place. AreChained cut goes low left place more) low left place part) (sym bound) (inl (less, rest.0)),
        ),
        (is.lists, rest.1),
      )

  -- parts behind the end there are none
  last_one : (low : List ℕ) (left place : ℕ) (cut : Bool) (part : ScanPart) (parts : List ScanPart) → IsPart map_at low left place part → IsLastPart left part → (other : List ℕ) (n k : ℕ) → AreChained cut false other n k parts →
      AreParts map_at low left place cut (part ∷ parts)
  last_one low left place cut part [] is last other n k none = subst (λ b. AreParts map_at low left place b (part ∷ [])) none (ends is last)
  last_one low left place cut part (next ∷ parts) is last other n k none = absurd (false≢true none.0)

  parts_so : (low : List ℕ) (left place : ℕ) (cut : Bool) (parts : List ScanPart) → AreChained cut true low left place parts → AllByRecursion Lists (parts_left left parts) → AreParts map_at low left place cut parts
  parts_so low left place cut [] chained lists = subst (λ b. AreParts map_at low left place b []) chained cut_off
  parts_so low left place cut (part ∷ parts) chained lists =
      by part.high refl chained.2 (λ high more. parts_so high (left - length part.pairs) part.place cut parts more lists.1)
    where
      is : IsPart map_at low left place part
      is = is_so low left place part chained.1 lists.0

      by : (high : Option (List ℕ)) → part.high ≡ high → WhatFollows (λ goes low left place. AreChained cut goes low left place parts) low left place part high →
          ((high : List ℕ) → AreChained cut true high (left - length part.pairs) part.place parts → AreParts map_at high (left - length part.pairs) part.place cut parts) →
          AreParts map_at low left place cut (part ∷ parts)
      by None bound follows rest = last_one low left place cut part parts is (inr bound) low left place follows
      by (Some high) bound (inl more) rest = goes_on high is more.0 bound (rest high more.1)
      by (Some high) bound (inr none) rest = last_one low left place cut part parts is (inl none.0) low left place none.1

  all_front : (xs ys : List (ℕ × ScanPart)) → AllByRecursion Lists (xs ++ ys) → AllByRecursion Lists xs × AllByRecursion Lists ys
  all_front [] ys all = (tt, all)
  all_front (x ∷ xs) ys all = let rest = all_front xs ys all.1 in ((all.0, rest.0), rest.1)

  all_both : (xs ys : List (ℕ × ScanPart)) → AllByRecursion Lists xs → AllByRecursion Lists ys → AllByRecursion Lists (xs ++ ys)
  all_both [] ys all others = others
  all_both (x ∷ xs) ys all others = (all.0, all_both xs ys all.1 others)

  reply_halves : (op : Op) (reply : Reply) → TellsItsParts map_at op reply → IsChained op reply × AllByRecursion Lists (parts_of_reply op reply)
  reply_halves op (Old old place) tells = (tt, tt)
  reply_halves (Put name value) (Parts parts cut) tells = (tt, tt)
  reply_halves (Get name) (Parts parts cut) tells = (tt, tt)
  reply_halves (Del name) (Parts parts cut) tells = (tt, tt)
  reply_halves (Scan from count) (Parts parts cut) tells = chained_so from count 0 cut parts tells
  reply_halves op Full tells = (tt, tt)
  reply_halves op (Spent clock) tells = (tt, tt)
  reply_halves op (Cut mark) tells = (tt, tt)
  reply_halves op Unstarted tells = (tt, tt)

  reply_whole : (op : Op) (reply : Reply) → IsChained op reply → AllByRecursion Lists (parts_of_reply op reply) → TellsItsParts map_at op reply
  reply_whole op (Old old place) chained lists = tt
  reply_whole (Put name value) (Parts parts cut) chained lists = tt
  reply_whole (Get name) (Parts parts cut) chained lists = tt
  reply_whole (Del name) (Parts parts cut) chained lists = tt
  reply_whole (Scan from count) (Parts parts cut) chained lists = parts_so from count 0 cut parts chained lists
  reply_whole op Full chained lists = tt
  reply_whole op (Spent clock) chained lists = tt
  reply_whole op (Cut mark) chained lists = tt
  reply_whole op Unstarted chained lists = tt

  halves : (told : List Record) → AllByRecursion (λ (r : Record). TellsItsParts map_at r.op r.reply) told → AllByRecursion (λ (r : Record). IsChained r.op r.reply) told × AllByRecursion Lists (parts_told told)
  halves [] tells = (tt, tt)
  halves (r ∷ told) tells =
      let here = reply_halves r.op r.reply tells.0 in
      let rest = halves told tells.1 in
      ((here.0, rest.0), all_both (parts_of_reply r.op r.reply) (parts_told told) here.1 rest.1)

  whole : (told : List Record) → AllByRecursion (λ (r : Record). IsChained r.op r.reply) told → AllByRecursion Lists (parts_told told) → AllByRecursion (λ (r : Record). TellsItsParts map_at r.op r.reply) told
  whole [] chained lists = tt
  whole (r ∷ told) chained lists =
      let parts = all_front (parts_of_reply r.op r.reply) (parts_told told) lists in
      (reply_whole r.op r.reply chained.0 parts.0, whole told chained.1 parts.1)

  -- each scan's parts are legal exactly where they follow one another and list what the maps have
  pub scans_are : (told : List Record) → (All (λ (r : Record). IsChained r.op r.reply) told × All Lists (parts_told told)) ↔ All (λ (r : Record). TellsItsParts map_at r.op r.reply) told
  scans_are told = (
    λ both.
        All-from_recursion (λ (r : Record). TellsItsParts map_at r.op r.reply) told
        (whole told (recursion_from_All (λ (r : Record). IsChained r.op r.reply) told both.0) (recursion_from_All Lists (parts_told told) both.1)),
    λ tells.
        let both = halves told (recursion_from_All (λ (r : Record). TellsItsParts map_at r.op r.reply) told tells) in
        (All-from_recursion (λ (r : Record). IsChained r.op r.reply) told both.0, All-from_recursion Lists (parts_told told) both.1),
  )
