-- The anchors after a put or delete make the members that a list of members comes to.
use Rattle.std.proofs.Common.{◌≡◌, ◌≢◌, ℕ, zero, suc, ◌+◌, ◌/◌, ◌<◌, ◌≤◌, Bool, true, false, not, if◌then◌else◌, ◌&&◌, ◌↔◌, ltb, leb, eqb, nat_le, MatchBool, is_some, is_none, inl, inr, ⊎_elim, Option, Some, None, List, [], ◌∷◌, ◌++◌, length, get_or, take, drop, slice_get, refl, sym, ap, subst, ◌∙◌, arith, append_assoc, length-append, length-take, length-drop, lt-ltb, le-ltb, leb-true, leb-false, eqb-true, eq-eqb, ne_eqb}
use Rattle.std.proofs.lemmas.Bool.{MatchBool-at_true, MatchBool-at_false, eqb-false}
use Rattle.std.specs.FinMap.{keys, insert, remove}
use Rattle.std.specs.List.{filter, AllByRecursion}
use Rattle.cat_history.specs.Maps.{Map, at}
use Rattle.shapes.proofs.PlainMapLemmas.{removed-lacking}
use Rattle.shapes.specs.Anchors.{below, AnchorsRise, Anchors, AreAnchors, is_under, is_between, names_between, up_to, past, target_of, next_of, names_at, splits, middle_of, put_anchors, del_anchors}
use Rattle.shapes.specs.Members as member
use Rattle.shapes.specs.Members.{Member, is_among, with_name, without_name, named, IsTargetMember, lower, upper, Outcome, Full, Placed, Puts, Deletes, members}
use Rattle.shapes.specs.Laws.{DeleteAgrees, PutAgrees}
use Rattle.shapes.proofs.Orders.{true_or_false, clash, not_back, upto-below, below-chain}
use Rattle.shapes.proofs.NameLists.{all_by, all_append, all_first, all_second, filter-passes, below-place, from-place, with_name-there}
use Rattle.shapes.proofs.Keys.{rise-keys, among-keys, keys-insert, rise-between, put-inside, del-between}
use Rattle.shapes.proofs.Targets.{Parted, part, target-is, names_at-is, before-low, rise-second, members_before, member_of, members-parts, before-same, after-same, put-untouched, del-untouched, is-target, is-inside, has-name, first-names, second-names, names-joined, and_false}
use Rattle.shapes.proofs.Turns.{Parts, parts, one_target, put_comes, ComesTo, deleted, next_comes, del_comes, del_there}

pub none-of : (o : Option ℕ) → is_some o ≡ false → o ≡ None
none-of None is = refl
none-of (Some x) is = clash refl is

-- ---- deletes

module _ (slots : ℕ) (m : Map) (anchors : Anchors) (name : List ℕ) (are : AreAnchors anchors) (before : Anchors) (low : List ℕ) where
  abbrev less : Map
  less = remove m name

  -- the members without the name, in three parts
  less-parts : (after rest : Anchors) → anchors ≡ before ++ low ∷ after → below name low ≡ false → AllByRecursion (λ a. below name a ≡ true) rest →
      members less (before ++ low ∷ rest) ≡ members_before m before low ++ member_of less low (slice_get rest 0) ∷ members m rest
  less-parts after rest is at_most above =
      members-parts less before low rest
      ∙ ap (λ xs. xs ++ member_of less low (slice_get rest 0) ∷ members less rest)
      (before-same name m less (del-untouched m name) before low (before-low before low after (subst AnchorsRise is are.rise)) at_most)
      ∙ ap (λ xs. members_before m before low ++ member_of less low (slice_get rest 0) ∷ xs) (after-same name m less (del-untouched m name) rest above)

  chosen : Bool → List ℕ → Anchors → Anchors → Anchors
  chosen s t u q = if s && (is_some (slice_get q 0) && nat_le (length (names_between less t (slice_get q 1))) (slots / 2)) then u ++ drop 1 q else anchors

  after-delete : (after : Anchors) (p : Parted anchors name) → p.before ≡ before → p.low ≡ low → p.after ≡ after → is_some (at m name) ≡ true →
      del_anchors slots m anchors name ≡ (if is_some (slice_get after 0) && nat_le (length (names_between less low (slice_get after 1))) (slots / 2) then (before ++ low ∷ []) ++ drop 1 after else anchors)
  unfolding chosen
  after-delete after p is_before is_low is_after has =
      ap (λ s. chosen s (target_of anchors name) (up_to anchors name) (past anchors name)) has
      ∙ ap (λ t. chosen true t (up_to anchors name) (past anchors name)) (target-is anchors name p ∙ is_low)
      ∙ ap (λ u. chosen true low u (past anchors name)) (p.up ∙ ap (λ b. b ++ p.low ∷ []) is_before ∙ ap (λ l. before ++ l ∷ []) is_low)
      ∙ ap (λ q. chosen true low (before ++ low ∷ []) q) (p.past_is ∙ is_after)

module _ (slots : ℕ) (m : Map) (anchors : Anchors) (name : List ℕ) (are : AreAnchors anchors) where
  by-next : (before : Anchors) (low : List ℕ) (after : Anchors) (p : Parted anchors name) → p.before ≡ before → p.low ≡ low → p.after ≡ after →
      anchors ≡ before ++ low ∷ after → below name low ≡ false → AllByRecursion (λ a. below name a ≡ true) after → is_some (at m name) ≡ true →
      next_comes slots name (parts (members_before m before low) (member_of m low (slice_get after 0)) (members m after)) (members m after)
      ≡ members (remove m name) (del_anchors slots m anchors name)
  by-next before low [] p is_before is_low is_after is at_most above has =
      sym (ap (members (remove m name)) (after-delete slots m anchors name are before low [] p is_before is_low is_after has ∙ is)
      ∙ less-parts slots m anchors name are before low [] [] is at_most tt
      ∙ ap (λ names. members_before m before low ++ record { anchor = low; names = names } ∷ []) (del-between m low None name))
  by-next before low (h ∷ rest) p is_before is_low is_after is at_most above has =
      let less : Map = remove m name in
      let ordered : AnchorsRise (before ++ low ∷ h ∷ rest) = subst AnchorsRise is are.rise in
      let here : below low h ≡ true = (rise-second before (low ∷ h ∷ rest) ordered).0.0 in
      let next : is_under (slice_get rest 0) h ≡ true = under-next rest (rise-second before (low ∷ h ∷ rest) ordered).1.0 in
      let theirs : names_between less h (slice_get rest 0) ≡ names_between m h (slice_get rest 0) =
      del-untouched m name h (slice_get rest 0) (ap (λ b. not b && is_under (slice_get rest 0) name) above.0) in
      let joined : without_name name (names_between m low (Some h)) ++ names_between m h (slice_get rest 0) ≡ names_between less low (slice_get rest 0) =
      ap (λ xs. xs ++ names_between m h (slice_get rest 0)) (sym (del-between m low (Some h) name))
      ∙ ap (λ xs. names_between less low (Some h) ++ xs) (sym theirs)
      ∙ names-joined low h (slice_get rest 0) (not_back low h here) next less in
      let lengths : length (without_name name (names_between m low (Some h))) + length (names_between m h (slice_get rest 0)) ≡ length (names_between less low (slice_get rest 0)) =
      sym (length-append (without_name name (names_between m low (Some h))) (names_between m h (slice_get rest 0))) ∙ ap length joined in
      let kept : members less anchors ≡ members_before m before low ++ named (member_of m low (Some h)) (without_name name (names_between m low (Some h))) ∷ members m (h ∷ rest) =
      ap (members less) is ∙ less-parts slots m anchors name are before low (h ∷ rest) (h ∷ rest) is at_most above
      ∙ ap (λ names. members_before m before low ++ record { anchor = low; names = names } ∷ members m (h ∷ rest)) (del-between m low (Some h) name) in
      let merged : members less ((before ++ low ∷ []) ++ rest) ≡ members_before m before low
      ++ named (member_of m low (Some h)) (without_name name (names_between m low (Some h)) ++ names_between m h (slice_get rest 0)) ∷ members m rest =
      ap (members less) (append_assoc before (low ∷ []) rest) ∙ less-parts slots m anchors name are before low (h ∷ rest) rest is at_most above.1
      ∙ ap (λ names. members_before m before low ++ record { anchor = low; names = names } ∷ members m rest) (sym joined) in
      let few : Bool = leb (length (names_between less low (slice_get rest 0))) (slots / 2) in
      ap (λ k. if leb k (slots / 2)
      then members_before m before low ++ named (member_of m low (Some h)) (without_name name (names_between m low (Some h)) ++ names_between m h (slice_get rest 0)) ∷ members m rest
      else members_before m before low ++ named (member_of m low (Some h)) (without_name name (names_between m low (Some h))) ∷ members m (h ∷ rest)) lengths
      ∙ ap (λ xs. if few then xs else members_before m before low ++ named (member_of m low (Some h)) (without_name name (names_between m low (Some h))) ∷ members m (h ∷ rest)) (sym merged)
      ∙ ap (λ xs. if few then members less ((before ++ low ∷ []) ++ rest) else xs) (sym kept)
      ∙ pushed few ((before ++ low ∷ []) ++ rest)
      ∙ sym (ap (members less) (after-delete slots m anchors name are before low (h ∷ rest) p is_before is_low is_after has))
    where
      under-next : (rest : Anchors) → AllByRecursion (λ a. below h a ≡ true) rest → is_under (slice_get rest 0) h ≡ true
      under-next [] all = refl
      under-next (a ∷ others) all = all.0

      pushed : (b : Bool) (xs : Anchors) → (if b then members (remove m name) xs else members (remove m name) anchors) ≡ members (remove m name) (if b then xs else anchors)
      pushed true xs = refl
      pushed false xs = refl

  deleted-is : (p : Parted anchors name) → deleted slots name (members m anchors) (parts (members_before m p.before p.low) (member_of m p.low (slice_get p.after 0)) (members m p.after))
      ≡ members (remove m name) (del_anchors slots m anchors name)
  deleted-is p =
      let there = has-name m anchors name p in
      let whole : Parts = parts (members_before m p.before p.low) (member_of m p.low (slice_get p.after 0)) (members m p.after) in
      ap (λ b. if b then next_comes slots name whole (members m p.after) else members m anchors) there
      ∙ elim (is_some (at m name)) as (λ b. is_some (at m name) ≡ b → (if b then next_comes slots name whole (members m p.after) else members m anchors) ≡ members (remove m name) (del_anchors slots m anchors name)) [
        | true ↦ λ has. by-next p.before p.low p.after p refl refl refl p.is p.at_most p.above has
        | false ↦ λ lacks.
            sym (ap (λ n. members n anchors) (removed-lacking m name (none-of (at m name) lacks)))
            ∙ ap (members (remove m name)) (sym (ap (λ s. if s && (is_some (next_of anchors name) && nat_le (length (names_between (remove m name) (target_of anchors name) (slice_get (past anchors name) 1))) (slots / 2))
            then up_to anchors name ++ drop 1 (past anchors name) else anchors) lacks))
      ] refl

pub delete_agrees : DeleteAgrees
delete_agrees slots m anchors name are after =
    let p = part anchors name are in
    let here = is-target m anchors name p in
    let e = deleted-is slots m anchors name are p in (
      λ del. del_comes slots name (members m anchors) (members_before m p.before p.low) (member_of m p.low (slice_get p.after 0)) (members m p.after) after here del ∙ e,
      λ is. subst (Deletes slots name (members m anchors)) (e ∙ sym is)
          (del_there slots name (members m anchors) (members_before m p.before p.low) (member_of m p.low (slice_get p.after 0)) (members m p.after) here),
    )

-- ---- puts

-- the members hang on the names of the map alone
pub by-keys : (m m' : Map) → keys m ≡ keys m' → (anchors : Anchors) → members m anchors ≡ members m' anchors
by-keys m m' same [] = refl
by-keys m m' same (a ∷ later) = λ i. record { anchor = a; names = filter (is_between a (slice_get later 0)) (same i) } ∷ by-keys m m' same later i

pub length-members : (m : Map) (anchors : Anchors) → length (members m anchors) ≡ length anchors
length-members m [] = refl
length-members m (a ∷ later) = ap suc (length-members m later)

module _ (slots nodes : ℕ) (m : Map) (anchors : Anchors) (name : List ℕ) (value : ℕ) (are : AreAnchors anchors) (p : Parted anchors name) where
  abbrev more : Map
  more = insert m name value

  abbrev ends : Option (List ℕ)
  ends = slice_get p.after 0

  abbrev target : Member
  target = member_of m p.low ends

  abbrev before_it : List Member
  before_it = members_before m p.before p.low

  abbrev after_it : List Member
  after_it = members m p.after

  -- the members with the name
  more-parts : members more anchors ≡ before_it ++ named target (with_name name target.names) ∷ after_it
  more-parts =
      ap (members more) p.is ∙ members-parts more p.before p.low p.after
      ∙ ap (λ xs. xs ++ member_of more p.low ends ∷ members more p.after)
      (before-same name m more (put-untouched m name value) p.before p.low (before-low p.before p.low p.after (subst AnchorsRise p.is are.rise)) p.at_most)
      ∙ ap (λ xs. before_it ++ member_of more p.low ends ∷ xs) (after-same name m more (put-untouched m name value) p.after p.above)
      ∙ ap (λ names. before_it ++ record { anchor = p.low; names = names } ∷ after_it) (put-inside m p.low ends name value (is-inside p.low name p.after p.at_most p.above))

  -- what a put comes to
  comes : (outcome : Outcome) → Puts slots nodes name (members m anchors) outcome → ComesTo slots nodes name (members m anchors) (parts before_it target after_it) outcome
  comes outcome = put_comes slots nodes name (members m anchors) before_it target after_it outcome (is-target m anchors name p)

  abbrev Joined : Outcome → Type 0
  Joined outcome = outcome ≡ Placed (before_it ++ named target (with_name name target.names) ∷ after_it)

  abbrev Else : Outcome → Type 0
  Else outcome = MatchBool (eqb (length (members m anchors)) nodes) (outcome ≡ Full)
      (Puts slots nodes name (before_it ++ lower slots target ∷ upper slots target ∷ after_it) outcome)

  -- the target has the name
  there : is_some (at m name) ≡ true → (outcome : Outcome) → Puts slots nodes name (members m anchors) outcome ↔ (outcome ≡ Placed (members more anchors))
  there has outcome =
      let among : is_among name target.names ≡ true = has-name m anchors name p ∙ has in
      let stays : members m anchors ≡ members more anchors =
      by-keys m more (sym (keys-insert m name value ∙ with_name-there name (keys m) (rise-keys m) (among-keys m name ∙ has))) anchors in (
        λ put. MatchBool-at_true (outcome ≡ Placed (members m anchors)) (MatchBool (ltb (length target.names) slots) (Joined outcome) (Else outcome)) among (comes outcome put) ∙ ap Placed stays,
        λ is. subst (Puts slots nodes name (members m anchors)) (ap Placed stays ∙ sym is) (member.is_there (is-target m anchors name p) among),
      )

  -- the name joins it
  join : is_some (at m name) ≡ false → length target.names < slots → (outcome : Outcome) →
      Puts slots nodes name (members m anchors) outcome ↔ (outcome ≡ Placed (members more anchors))
  join lacks few outcome =
      let among : is_among name target.names ≡ false = has-name m anchors name p ∙ lacks in (
        λ put.
            MatchBool-at_true (Joined outcome) (Else outcome) (lt-ltb (length target.names) slots few)
            (MatchBool-at_false (outcome ≡ Placed (members m anchors)) (MatchBool (ltb (length target.names) slots) (Joined outcome) (Else outcome)) among (comes outcome put))
            ∙ ap Placed (sym more-parts),
        λ is. subst (Puts slots nodes name (members m anchors)) (ap Placed (sym more-parts) ∙ sym is) (member.joins (is-target m anchors name p) among few),
      )

  otherwise : is_some (at m name) ≡ false → slots ≤ length target.names → (outcome : Outcome) → Puts slots nodes name (members m anchors) outcome → Else outcome
  otherwise lacks many outcome put =
      let among : is_among name target.names ≡ false = has-name m anchors name p ∙ lacks in
      MatchBool-at_false (Joined outcome) (Else outcome) (le-ltb (length target.names) slots many)
      (MatchBool-at_false (outcome ≡ Placed (members m anchors)) (MatchBool (ltb (length target.names) slots) (Joined outcome) (Else outcome)) among (comes outcome put))

  -- no node is left
  full : is_some (at m name) ≡ false → slots ≤ length target.names → length anchors ≡ nodes → (outcome : Outcome) → Puts slots nodes name (members m anchors) outcome ↔ (outcome ≡ Full)
  full lacks many all outcome =
      let among : is_among name target.names ≡ false = has-name m anchors name p ∙ lacks in
      let whole : length (members m anchors) ≡ nodes = length-members m anchors ∙ all in (
        λ put.
            MatchBool-at_true (outcome ≡ Full) (Puts slots nodes name (before_it ++ lower slots target ∷ upper slots target ∷ after_it) outcome) (eq-eqb (length (members m anchors)) nodes whole)
            (otherwise lacks many outcome put),
        λ is. subst (Puts slots nodes name (members m anchors)) (sym is) (member.finds_no_node (is-target m anchors name p) among many whole),
      )

-- what rises, with one more text in it
rise-with : (before : Anchors) (low mid : List ℕ) (after : Anchors) → AnchorsRise (before ++ low ∷ after) → below low mid ≡ true → AllByRecursion (λ a. below mid a ≡ true) after →
    AnchorsRise (before ++ low ∷ mid ∷ after)
rise-with [] low mid after rise above all = ((above, rise.0), (all, rise.1))
rise-with (b ∷ bs) low mid after rise above all =
    let first : AllByRecursion (λ a. below b a ≡ true) bs = all_first (λ a. below b a ≡ true) bs (low ∷ after) rise.0 in
    let second : AllByRecursion (λ a. below b a ≡ true) (low ∷ after) = all_second (λ a. below b a ≡ true) bs (low ∷ after) rise.0 in (
      all_append (λ a. below b a ≡ true) bs (low ∷ mid ∷ after) first (second.0, (below-chain b low mid second.0 above, second.1)),
      rise-with bs low mid after rise.1 above all,
    )

pub first-kept : (before : Anchors) (low : List ℕ) (xs ys : Anchors) → slice_get (before ++ low ∷ xs) 0 ≡ slice_get (before ++ low ∷ ys) 0
first-kept [] low xs ys = refl
first-kept (b ∷ bs) low xs ys = refl

pub all-at : (P : List ℕ → Type 0) (xs : List (List ℕ)) (k : ℕ) (d : List ℕ) → AllByRecursion P xs → k < length xs → P (get_or xs k d)
all-at P [] k d all within = absurd (omega (arith, within))
all-at P (x ∷ xs) zero d all within = all.0
all-at P (x ∷ xs) (suc k) d all within = all-at P xs k d all.1 (omega (arith, within))

-- the first of what rises is below a later one
first-below : (xs : List (List ℕ)) (k : ℕ) (d : List ℕ) → AnchorsRise xs → 0 < k → k < length xs → below (get_or xs 0 d) (get_or xs k d) ≡ true
first-below [] k d rise some within = absurd (omega (arith, within))
first-below (x ∷ xs) zero d rise some within = absurd (omega (arith, some))
first-below (x ∷ xs) (suc k) d rise some within = all-at (λ y. below x y ≡ true) xs k d rise.0 (omega (arith, within))

pub and-first : (a b : Bool) → (a && b) ≡ true → a ≡ true
and-first true b is = refl
and-first false b is = clash is refl

pub and-second : (a b : Bool) → (a && b) ≡ true → b ≡ true
and-second true b is = is
and-second false b is = clash is refl

not-true-is : (b : Bool) → not b ≡ true → b ≡ false
not-true-is true is = clash is refl
not-true-is false is = refl

module _ (slots nodes : ℕ) (m : Map) (anchors : Anchors) (name : List ℕ) (value : ℕ) (enough : 2 ≤ slots) (are : AreAnchors anchors) (p : Parted anchors name)
    (fits : length (names_between m p.low (slice_get p.after 0)) ≤ slots) (many : slots ≤ length (names_between m p.low (slice_get p.after 0))) where
  abbrev its_names : List (List ℕ)
  its_names = names_between m p.low (slice_get p.after 0)

  abbrev middle : List ℕ
  middle = get_or its_names (slots / 2) []

  abbrev with_middle : Anchors
  with_middle = p.before ++ p.low ∷ middle ∷ p.after

  pub half : (0 < slots / 2) × (slots / 2 < length its_names)
  half = (omega (arith, enough), omega (arith, enough, many))

  pub middle-inside : is_between p.low (slice_get p.after 0) middle ≡ true
  middle-inside = all-at (λ x. is_between p.low (slice_get p.after 0) x ≡ true) its_names (slots / 2) [] (filter-passes (is_between p.low (slice_get p.after 0)) (keys m)) half.1

  -- the middle is above the target's anchor, since a name of the target is below it
  pub middle-above : below p.low middle ≡ true
  middle-above =
      let first : is_between p.low (slice_get p.after 0) (get_or its_names 0 []) ≡ true =
      all-at (λ x. is_between p.low (slice_get p.after 0) x ≡ true) its_names 0 [] (filter-passes (is_between p.low (slice_get p.after 0)) (keys m)) (let h = half.1 in omega arith) in
      upto-below p.low (get_or its_names 0 []) middle
      (not-true-is (below (get_or its_names 0 []) p.low) (and-first (not (below (get_or its_names 0 []) p.low)) (is_under (slice_get p.after 0) (get_or its_names 0 [])) first))
      (first-below its_names (slots / 2) [] (rise-between m p.low (slice_get p.after 0)) half.0 half.1)

  pub middle-under : is_under (slice_get p.after 0) middle ≡ true
  middle-under = and-second (not (below middle p.low)) (is_under (slice_get p.after 0) middle) middle-inside

  -- and below the later anchors
  pub middle-below : (after : Anchors) → AnchorsRise after → is_under (slice_get after 0) middle ≡ true → AllByRecursion (λ a. below middle a ≡ true) after
  middle-below [] rise under = tt
  middle-below (a ∷ later) rise under = (under, all_by (λ b. below a b ≡ true) (λ b. below middle b ≡ true) (λ b above. below-chain middle a b under above) later rise.0)

  pub split-are : AreAnchors with_middle
  split-are =
      let ordered : AnchorsRise (p.before ++ p.low ∷ p.after) = subst AnchorsRise p.is are.rise in
      record {
        first = first-kept p.before p.low (middle ∷ p.after) p.after ∙ ap (λ xs. slice_get xs 0) (sym p.is) ∙ are.first;
        rise = rise-with p.before p.low middle p.after ordered middle-above (middle-below p.after (rise-second p.before (p.low ∷ p.after) ordered).1 middle-under);
      }

  pub lower-names : names_between m p.low (Some middle) ≡ take (slots / 2) its_names
  lower-names =
      first-names p.low middle (slice_get p.after 0) (not_back p.low middle middle-above) middle-under m
      ∙ below-place its_names (slots / 2) [] (rise-between m p.low (slice_get p.after 0)) half.1

  pub upper-names : names_between m middle (slice_get p.after 0) ≡ drop (slots / 2) its_names
  upper-names =
      second-names p.low middle (slice_get p.after 0) (not_back p.low middle middle-above) middle-under m
      ∙ from-place its_names (slots / 2) [] (rise-between m p.low (slice_get p.after 0)) half.1

  abbrev whole : Member
  whole = member_of m p.low (slice_get p.after 0)

  pub split-members : members m with_middle ≡ members_before m p.before p.low ++ lower slots whole ∷ upper slots whole ∷ members m p.after
  split-members =
      members-parts m p.before p.low (middle ∷ p.after)
      ∙ ap (λ names. members_before m p.before p.low ++ record { anchor = p.low; names = names } ∷ members m (middle ∷ p.after)) lower-names
      ∙ ap (λ names. members_before m p.before p.low ++ lower slots whole ∷ record { anchor = middle; names = names } ∷ members m p.after) upper-names

  -- the target in the split shape is one of the two halves
  pub split-few : (q : Parted with_middle name) → length (names_between m q.low (slice_get q.after 0)) < slots
  split-few q =
      ⊎_elim
      (λ (under : below name middle ≡ true).
      let same = one_target name (members m with_middle) (members_before m p.before p.low) (lower slots whole) (upper slots whole ∷ members m p.after)
      (members_before m q.before q.low) (member_of m q.low (slice_get q.after 0)) (members m q.after)
      (record { place = split-members; at_most = p.at_most; last = (under, (is-target m anchors name p).last) }) (is-target m with_middle name q) in
      let sizes : length (take (slots / 2) its_names) ≡ length (names_between m q.low (slice_get q.after 0)) = ap (λ (x : Parts). length x.target.names) same in
      let size = length-take (slots / 2) its_names in
      let h = half in
      omega (arith, h.0, h.1))
      (λ (from : below name middle ≡ false).
      let same = one_target name (members m with_middle) (members_before m p.before p.low ++ lower slots whole ∷ []) (upper slots whole) (members m p.after)
      (members_before m q.before q.low) (member_of m q.low (slice_get q.after 0)) (members m q.after)
      (record { place = split-members ∙ sym (append_assoc (members_before m p.before p.low) (lower slots whole ∷ []) (upper slots whole ∷ members m p.after)); at_most = from; last = (is-target m anchors name p).last }) (is-target m with_middle name q) in
      let sizes : length (drop (slots / 2) its_names) ≡ length (names_between m q.low (slice_get q.after 0)) = ap (λ (x : Parts). length x.target.names) same in
      let size = length-drop (slots / 2) its_names in
      let h = half in
      omega (arith, h.0, h.1))
      (true_or_false (below name middle))

  split : is_some (at m name) ≡ false → length anchors ≢ nodes → (outcome : Outcome) → Puts slots nodes name (members m anchors) outcome ↔ (outcome ≡ Placed (members (insert m name value) with_middle))
  split lacks others outcome =
      let q = part with_middle name split-are in
      let joined = join slots nodes m with_middle name value split-are q lacks (split-few q) outcome in
      let more : length (members m anchors) ≢ nodes = λ is. others (sym (length-members m anchors) ∙ is) in
      let among : is_among name its_names ≡ false = has-name m anchors name p ∙ lacks in (
        λ put.
            joined.0 (subst (λ shape. Puts slots nodes name shape outcome) (sym split-members)
            (MatchBool-at_false (outcome ≡ Full) (Puts slots nodes name (members_before m p.before p.low ++ lower slots whole ∷ upper slots whole ∷ members m p.after) outcome)
            (ne_eqb (length (members m anchors)) nodes more) (otherwise slots nodes m anchors name value are p lacks many outcome put))),
        λ is. member.splits (is-target m anchors name p) among many more (subst (λ shape. Puts slots nodes name shape outcome) split-members (joined.1 is)),
      )

-- the target's names fit where those of every member do
pub fits-target : (slots : ℕ) (m : Map) (anchors : Anchors) (name : List ℕ) (p : Parted anchors name) → AllByRecursion (λ (member : Member). length member.names ≤ slots) (members m anchors) →
    length (names_between m p.low (slice_get p.after 0)) ≤ slots
fits-target slots m anchors name p all =
    (all_second (λ (member : Member). length member.names ≤ slots) (members_before m p.before p.low) (member_of m p.low (slice_get p.after 0) ∷ members m p.after)
    (subst (AllByRecursion (λ (member : Member). length member.names ≤ slots)) (is-target m anchors name p).place all)).0

pub none-is : (o : Option ℕ) → is_some o ≡ false → is_none o ≡ true
none-is None is = refl
none-is (Some x) is = clash refl is

pub some-none : (o : Option ℕ) → is_some o ≡ true → is_none o ≡ false
some-none None is = clash {b = false} is refl
some-none (Some x) is = refl

lacks-none : (o : Option ℕ) → is_some o ≡ true → o ≡ None → ⊥
lacks-none o has e = clash has (ap is_some e)

-- the anchors after a put, by whether the target splits
pub put-stays : (slots : ℕ) (m : Map) (anchors : Anchors) (name : List ℕ) → splits slots m anchors name ≡ false → put_anchors slots m anchors name ≡ anchors
put-stays slots m anchors name isnt = ap (λ b. if b then up_to anchors name ++ middle_of slots m anchors name ∷ past anchors name else anchors) isnt

pub put-splits : (slots : ℕ) (m : Map) (anchors : Anchors) (name : List ℕ) (p : Parted anchors name) → splits slots m anchors name ≡ true →
    put_anchors slots m anchors name ≡ p.before ++ p.low ∷ get_or (names_between m p.low (slice_get p.after 0)) (slots / 2) [] ∷ p.after
put-splits slots m anchors name p is =
    let middle : List ℕ = get_or (names_between m p.low (slice_get p.after 0)) (slots / 2) [] in
    ap (λ b. if b then up_to anchors name ++ middle_of slots m anchors name ∷ past anchors name else anchors) is
    ∙ ap (λ xs. xs ++ middle_of slots m anchors name ∷ past anchors name) p.up
    ∙ ap (λ xs. (p.before ++ p.low ∷ []) ++ middle_of slots m anchors name ∷ xs) p.past_is
    ∙ ap (λ xs. (p.before ++ p.low ∷ []) ++ get_or xs (slots / 2) [] ∷ p.after) (names_at-is m anchors name p)
    ∙ append_assoc p.before (p.low ∷ []) (middle ∷ p.after)

pub put_agrees : PutAgrees
put_agrees slots nodes m anchors name value enough shape =
    let are = shape.ordered in
    let p = part anchors name are in
    let its : List (List ℕ) = names_between m p.low (slice_get p.after 0) in
    let at_target : names_at m anchors name ≡ its = names_at-is m anchors name p in
    ⊎_elim
    (λ (has : is_some (at m name) ≡ true).
    inr (
      λ full. lacks-none (at m name) has full.lacks,
      λ outcome. subst (λ later. Puts slots nodes name (members m anchors) outcome ↔ (outcome ≡ Placed (members (insert m name value) later)))
          (sym (put-stays slots m anchors name (ap (λ b. b && nat_le slots (length (names_at m anchors name))) (some-none (at m name) has))))
          (there slots nodes m anchors name value are p has outcome),
    ))
    (λ (lacks : is_some (at m name) ≡ false).
    ⊎_elim
    (λ (many : nat_le slots (length its) ≡ true).
    let most : slots ≤ length its = leb-true slots (length its) many in
    ⊎_elim
    (λ (all : eqb (length anchors) nodes ≡ true).
    inl (
      record { lacks = none-of (at m name) lacks; whole = subst (λ xs. slots ≤ length xs) (sym at_target) most; no_node = eqb-true (length anchors) nodes all },
      λ outcome. full slots nodes m anchors name value are p lacks most (eqb-true (length anchors) nodes all) outcome,
    ))
    (λ (others : eqb (length anchors) nodes ≡ false).
    inr (
      λ full. eqb-false (length anchors) nodes others full.no_node,
      λ outcome. subst (λ later. Puts slots nodes name (members m anchors) outcome ↔ (outcome ≡ Placed (members (insert m name value) later)))
          (sym (put-splits slots m anchors name p (ap (λ b. b && nat_le slots (length (names_at m anchors name))) (none-is (at m name) lacks) ∙ ap (λ xs. nat_le slots (length xs)) at_target ∙ many)))
          (split slots nodes m anchors name value enough are p (fits-target slots m anchors name p shape.fits) most lacks (eqb-false (length anchors) nodes others) outcome),
    ))
    (true_or_false (eqb (length anchors) nodes)))
    (λ (few : nat_le slots (length its) ≡ false).
    let less : length its < slots = leb-false slots (length its) few in
    inr (
      λ full. let whole : slots ≤ length its = subst (λ xs. slots ≤ length xs) at_target full.whole in omega arith,
      λ outcome. subst (λ later. Puts slots nodes name (members m anchors) outcome ↔ (outcome ≡ Placed (members (insert m name value) later)))
          (sym (put-stays slots m anchors name (ap (λ xs. is_none (at m name) && nat_le slots (length xs)) at_target ∙ ap (λ b. is_none (at m name) && b) few ∙ and_false (is_none (at m name)))))
          (join slots nodes m anchors name value are p lacks less outcome),
    ))
    (true_or_false (nat_le slots (length its))))
    (true_or_false (is_some (at m name)))
