-- An index in which no node is FREE weighs at least half of all its slots: each node has its half of what the index
-- weighs, and no part of that serves two of them.
use Rattle.std.proofs.Common.{◌≡◌, ◌≢◌, ℕ, zero, suc, ◌+◌, ◌*◌, ◌/◌, ◌<◌, ◌≤◌, ◌⊎◌, inl, inr, ⊎_elim, Bool, true, false, cond, List, [], ◌∷◌, refl, sym, ap, ◌∙◌, subst, arith}
use Rattle.std.specs.Prelude.{Option, Some, None, ◌==◌}
use Rattle.std.proofs.lemmas.Bool.{cases_eq, eq-eqb, eqb-true}
use Rattle.std.proofs.Math.Nat.{suc-mul}
use mathlib.Core.Option.{some, some-injective, some-ne-none}
use lib.ListN.{get_elem?}
use Rattle.pm_words.specs.Codes.{live_status, gone_status}
use Rattle.pm_words.specs.declared.layout.Layout.{Layout}
use Rattle.pm_words.specs.Offsets.{bitmap_offset}
use Rattle.version_lock.specs.Versions.{IsFree}
use Rattle.data_node.specs.Lists.{ListNode, IsMember}
use Rattle.data_node.specs.Slots.{AreAllLive}
use Rattle.data_node.specs.Weights.{names_in, total}
use Rattle.call_stages.specs.Stages.{Held, Grip, Filling, Linked, Parted, Gathered, Joined, Gone, Stage, Idle, Saw, Wears, Reads, Holds, Eyes, Splits, Leaves, Meets, Joins, HoldsNode}
use Rattle.index_law.specs.Facts.{Facts, range_of, IsListed}
use Rattle.index_law.specs.Worlds.{Party, World, facts}
use Rattle.index_law.specs.Lawful.{Sure, Lawful, IsHeld}
use Rattle.index_law.specs.Weights.{weight_at, listed_weight, gone_weight, lowered_in, lowered_sum, weight_sum}
use Rattle.index_law.specs.InUse.{AreSplitFull, AreInUse, UseWeighs}
use Rattle.index_law.proofs.Copies.{full_names}
use Rattle.index_law.proofs.Switch.{inside_listed, leads_on}
use Rattle.index_law.proofs.Totals.{part_at, part-here, part-else}

-- ---- sums over the first so many nodes

abbrev sum_to : ℕ → (ℕ → ℕ) → ℕ
sum_to zero part = 0
sum_to (suc n) part = part n + sum_to n part

sum_least : (half n : ℕ) (part : ℕ → ℕ) → ((k : ℕ) → k < n → half ≤ part k) → n * half ≤ sum_to n part
sum_least half zero part each = omega arith
sum_least half (suc n) part each =
    let first = each n (omega arith) in
    let rest = sum_least half n part (λ k below. each k (omega arith)) in
    let times : suc n * half ≡ n * half + half = suc-mul n half in
    omega arith

sum_plus : (n : ℕ) (one other : ℕ → ℕ) → sum_to n (λ k. one k + other k) ≡ sum_to n one + sum_to n other
sum_plus zero one other = refl
sum_plus (suc n) one other = let rest = sum_plus n one other in omega arith

sum_zero : (n : ℕ) → sum_to n (λ k. 0) ≡ 0
sum_zero zero = refl
sum_zero (suc n) = let rest = sum_zero n in omega arith

sum_past : (n a x : ℕ) → n ≤ a → sum_to n (part_at a x) ≡ 0
sum_past zero a x past = refl
sum_past (suc n) a x past =
    let first = part-else a x n (λ e. omega arith) in
    let rest = sum_past n a x (omega arith) in
    omega arith

sum_part : (n a x : ℕ) → sum_to n (part_at a x) ≤ x
sum_part zero a x = omega arith
sum_part (suc n) a x = ⊎_elim
    (λ (same : a ≡ n).
    let first = part-here a x n same in
    let rest = sum_past n a x (omega arith) in
    omega arith)
    (λ (other : a ≢ n).
    let first = part-else a x n other in
    let rest = sum_part n a x in
    omega arith)
    (cases_eq a n)

-- a sum over the list of sums over the nodes
sum_total : (n : ℕ) (part : ℕ → ℕ → ℕ) (here : ℕ) (list : List ListNode) → sum_to n (λ k. total (λ m. part m k) here list) ≡ total (λ m. sum_to n (part m)) here list
sum_total n part here [] = refl
sum_total n part here (m ∷ behind) =
    sum_plus n (part here) (λ k. total (λ q. part q k) m.node behind) ∙ ap (λ rest. sum_to n (part here) + rest) (sum_total n part m.node behind)

total_less : (few many : ℕ → ℕ) (here : ℕ) (list : List ListNode) → ((n : ℕ) → (n ≡ here) ⊎ IsMember list n → few n ≤ many n) → total few here list ≤ total many here list
total_less few many here [] less = less here (inl refl)
total_less few many here (m ∷ behind) less =
    let first = less here (inl refl) in
    let rest = total_less few many m.node behind (λ n is. less n (inr is)) in
    omega arith

total_has : (part : ℕ → ℕ) (n here : ℕ) (list : List ListNode) → (n ≡ here) ⊎ IsMember list n → part n ≤ total part here list
total_has part n here [] (inl same) = let is = ap part same in omega arith
total_has part n here [] (inr among) = absurd among
total_has part n here (m ∷ behind) (inl same) = let is = ap part same in omega arith
total_has part n here (m ∷ behind) (inr among) = let rest = total_has part n m.node behind among in omega arith

-- ---- the fresh node for which a full one has names enough

abbrev fresh_in : Stage → ℕ → Option ℕ
fresh_in (Splits left fresh (Filling lit)) m = cond (left.node == m) (Some fresh.node) None
fresh_in _ m = None

abbrev or_else : Option ℕ → Option ℕ → Option ℕ
or_else None other = other
or_else (Some n) other = Some n

abbrev fresh_of : List Party → ℕ → Option ℕ
fresh_of [] m = None
fresh_of (p ∷ parties) m = or_else (fresh_in p.stage m) (fresh_of parties m)

-- a stage that splits this node towards that one
record SplitsTo (s : Stage) (m k : ℕ) : Type 0 where
  pub left : Grip
  pub fresh : Grip
  pub lit : Bool
  pub is : s ≡ Splits left fresh (Filling lit)
  pub at : left.node ≡ m
  pub to : fresh.node ≡ k

none_some : (k : ℕ) → None ≡ Some k → ⊥
none_some k is = cc

some_in : (a b k : ℕ) (test : Bool) → cond test (Some a) None ≡ Some k → (test ≡ true) × (a ≡ k)
some_in a b k true is = (refl, cc)
some_in a b k false is = absurd (none_some k is)

splits_to : (s : Stage) (m k : ℕ) → fresh_in s m ≡ Some k → SplitsTo s m k
splits_to Idle m k is = absurd (none_some k is)
splits_to (Saw n v w t) m k is = absurd (none_some k is)
splits_to (Wears n v) m k is = absurd (none_some k is)
splits_to (Reads n v sight told) m k is = absurd (none_some k is)
splits_to (Holds n w h) m k is = absurd (none_some k is)
splits_to (Eyes n w h q v u free) m k is = absurd (none_some k is)
splits_to (Splits left fresh (Filling lit)) m k is =
    let both = some_in fresh.node 0 k (left.node == m) is in
    record { left = left; fresh = fresh; lit = lit; is = refl; at = eqb-true left.node m both.0; to = both.1 }
splits_to (Splits left fresh Linked) m k is = absurd (none_some k is)
splits_to (Splits left fresh Parted) m k is = absurd (none_some k is)
splits_to (Leaves left) m k is = absurd (none_some k is)
splits_to (Meets n w h right) m k is = absurd (none_some k is)
splits_to (Joins h left right pace) m k is = absurd (none_some k is)

-- what is found is of a party,
record IsOfParty (parties : List Party) (m k : ℕ) : Type 0 where
  pub number : ℕ
  pub party : Party
  pub there : get_elem? parties number ≡ some party
  pub splits : fresh_in party.stage m ≡ Some k

of_party : (parties : List Party) (m k : ℕ) → fresh_of parties m ≡ Some k → IsOfParty parties m k
of_party [] m k is = absurd (none_some k is)
of_party (p ∷ parties) m k is = elim (fresh_in p.stage m) as (λ o. fresh_in p.stage m ≡ o → or_else o (fresh_of parties m) ≡ Some k → IsOfParty (p ∷ parties) m k) [
  | None ↦ λ none later. let rest = of_party parties m k later in record { number = suc rest.number; party = rest.party; there = rest.there; splits = rest.splits }
  | Some n ↦ λ some_fresh own. record { number = 0; party = p; there = refl; splits = some_fresh ∙ own }
] refl is

-- and where a party splits the node, one is found
finds_one : (parties : List Party) (i : ℕ) (p : Party) (m k : ℕ) → get_elem? parties i ≡ some p → fresh_in p.stage m ≡ Some k → (n : ℕ) × (fresh_of parties m ≡ Some n)
finds_one [] i p m k there is = absurd (some-ne-none p (sym there))
finds_one (d ∷ parties) zero p m k there is =
    (k, ap (λ o. or_else o (fresh_of parties m)) (ap (λ (q : Party). fresh_in q.stage m) (some-injective d p there) ∙ is))
finds_one (d ∷ parties) (suc i) p m k there is = elim (fresh_in d.stage m) as (λ o. (n : ℕ) × (or_else o (fresh_of parties m) ≡ Some n)) [
  | None ↦ finds_one parties i p m k there is
  | Some n ↦ (n, refl)
]

-- ---- the node that a merge has left out

abbrev out_in : ℕ → Stage → ℕ → ℕ
out_in half (Joins h left right Joined) k = part_at right.node half k
out_in half _ k = 0

abbrev out_of : ℕ → List Party → ℕ → ℕ
out_of half [] k = 0
out_of half (p ∷ parties) k = out_in half p.stage k + out_of half parties k

out_lowers : (l : Layout) (f : Facts) (n : ℕ) (s : Stage) → sum_to n (out_in (l.slots / 2) s) ≤ lowered_in l f s
out_lowers l f n Idle = let none = sum_zero n in omega arith
out_lowers l f n (Saw m v w t) = let none = sum_zero n in omega arith
out_lowers l f n (Wears m v) = let none = sum_zero n in omega arith
out_lowers l f n (Reads m v sight told) = let none = sum_zero n in omega arith
out_lowers l f n (Holds m w h) = let none = sum_zero n in omega arith
out_lowers l f n (Eyes m w h q v u free) = let none = sum_zero n in omega arith
out_lowers l f n (Splits left fresh phase) = let none = sum_zero n in omega arith
out_lowers l f n (Leaves left) = let none = sum_zero n in omega arith
out_lowers l f n (Meets m w h right) = let none = sum_zero n in omega arith
out_lowers l f n (Joins h left right Gathered) = let none = sum_zero n in omega arith
out_lowers l f n (Joins h left right Joined) = sum_part n right.node (l.slots / 2)
out_lowers l f n (Joins h left right Gone) = let none = sum_zero n in omega arith

out_sums : (l : Layout) (f : Facts) (n : ℕ) (parties : List Party) → sum_to n (out_of (l.slots / 2) parties) ≤ lowered_sum l f parties
out_sums l f n [] = let none = sum_zero n in omega arith
out_sums l f n (p ∷ parties) =
    let first = out_lowers l f n p.stage in
    let rest = out_sums l f n parties in
    let sums = sum_plus n (out_in (l.slots / 2) p.stage) (out_of (l.slots / 2) parties) in
    omega arith

out_has : (half : ℕ) (parties : List Party) (i : ℕ) (p : Party) (k : ℕ) → get_elem? parties i ≡ some p → out_in half p.stage k ≤ out_of half parties k
out_has half [] i p k there = absurd (some-ne-none p (sym there))
out_has half (d ∷ parties) zero p k there =
    let first = ap (λ (q : Party). out_in half q.stage k) (some-injective d p there) in
    omega arith
out_has half (d ∷ parties) (suc i) p k there = let rest = out_has half parties i p k there in omega arith

-- ---- the GONE nodes

abbrev gone_part : ℕ → (ℕ → ℕ) → ℕ → ℕ
gone_part half status k = cond (status k == gone_status) half 0

gone_sum : (half : ℕ) (status : ℕ → ℕ) (n : ℕ) → sum_to n (gone_part half status) ≡ gone_weight half status n
gone_sum half status zero = refl
gone_sum half status (suc n) = ap (λ rest. cond (status n == gone_status) half 0 + rest) (gone_sum half status n)

-- ---- what a listed node has for itself and for a fresh one

abbrev for_fresh : ℕ → Option ℕ → ℕ → ℕ
for_fresh half None k = 0
for_fresh half (Some fresh) k = part_at fresh half k

abbrev most_for_fresh : ℕ → Option ℕ → ℕ
most_for_fresh half None = 0
most_for_fresh half (Some fresh) = half

fresh_sum : (half n : ℕ) (o : Option ℕ) → sum_to n (for_fresh half o) ≤ most_for_fresh half o
fresh_sum half n None = let none = sum_zero n in omega arith
fresh_sum half n (Some fresh) = sum_part n fresh half

module _ (w : World) (lawful : Lawful w) (full : AreSplitFull w) (used : AreInUse w) where
  abbrev l : Layout
  l = w.layout

  abbrev f : Facts
  f = facts w

  abbrev half : ℕ
  half = w.layout.slots / 2

  -- the part of a listed node that serves the node k
  abbrev share : ℕ → ℕ → ℕ
  share m k = part_at m half k + for_fresh half (fresh_of w.parties m) k

  -- a node that is split is full, and so weighs as much as two
  full_weighs : (m k : ℕ) → fresh_of w.parties m ≡ Some k → half + half ≤ weight_at l f m
  full_weighs m k is =
      let own = of_party w.parties m k is in
      let to = splits_to own.party.stage m k own.splits in
      let sure = subst (Sure l w.generation f own.party.caller own.party.index own.party.since) to.is (lawful.sure own.number own.party own.there) in
      let live : AreAllLive (f.now to.left.node bitmap_offset) l.slots = full own.number own.party to.left to.fresh to.lit own.there to.is in
      let names : names_in l.slots (range_of l f to.left.node) (f.now to.left.node) ≡ l.slots =
      full_names l.slots l.slots (range_of l f to.left.node) (f.now to.left.node) (omega arith) live
      (λ slot within. sure.at.settled.means.tidy.named slot within (live slot within)) sure.at.settled.stays in
      subst (λ n. half + half ≤ weight_at l f n) to.at (omega arith)

  share_fits : (m : ℕ) → sum_to l.nodes (share m) ≤ weight_at l f m
  share_fits m =
      let sums = sum_plus l.nodes (part_at m half) (for_fresh half (fresh_of w.parties m)) in
      let own = sum_part l.nodes m half in
      let other = fresh_sum half l.nodes (fresh_of w.parties m) in
      elim (fresh_of w.parties m) as (λ o. fresh_of w.parties m ≡ o → sum_to l.nodes (share m) ≤ weight_at l f m) [
        | None ↦ λ none. let zero_more : most_for_fresh half (fresh_of w.parties m) ≡ 0 = ap (most_for_fresh half) none in omega arith
        | Some k ↦ λ is.
            let more : most_for_fresh half (fresh_of w.parties m) ≡ half = ap (most_for_fresh half) is in
            let weighs = full_weighs m k is in
            omega arith
      ] refl

  abbrev shared : ℕ → ℕ
  shared k = total (λ m. share m k) 0 f.list

  shared_sum : sum_to l.nodes shared ≤ listed_weight l f
  shared_sum =
      let swapped = sum_total l.nodes share 0 f.list in
      let less = total_less (λ m. sum_to l.nodes (share m)) (weight_at l f) 0 f.list (λ n is. share_fits n) in
      omega arith

  -- a listed node has its own half,
  own_half : (k : ℕ) → IsListed f k → half ≤ shared k
  own_half k listed =
      let has = total_has (λ m. share m k) k 0 f.list listed in
      let here = part-here k half k refl in
      omega arith

  -- a fresh one the other half of the full one,
  fresh_half : (i : ℕ) (p : Party) (left fresh : Grip) (lit : Bool) → get_elem? w.parties i ≡ some p → p.stage ≡ Splits left fresh (Filling lit) → IsListed f left.node → half ≤ shared fresh.node
  fresh_half i p left fresh lit there is listed =
      let own : fresh_in p.stage left.node ≡ Some fresh.node =
      ap (λ s. fresh_in s left.node) is ∙ ap (λ b. cond b (Some fresh.node) None) (eq-eqb left.node left.node refl) in
      let found = finds_one w.parties i p left.node fresh.node there own in
      let other = of_party w.parties left.node found.0 found.1 in
      let to = splits_to other.party.stage left.node found.0 other.splits in
      let mine : HoldsNode p.stage left.node = subst (λ s. HoldsNode s left.node) (sym is) (inl refl) in
      let theirs : HoldsNode other.party.stage left.node = subst (λ s. HoldsNode s left.node) (sym to.is) (inl to.at) in
      let one : other.number ≡ i = lawful.alone other.number i left.node other.party p other.there there theirs mine in
      let same : other.party ≡ p = some-injective _ _ (sym other.there ∙ ap (get_elem? w.parties) one ∙ there) in
      let answer : fresh_of w.parties left.node ≡ Some fresh.node =
      found.1 ∙ sym other.splits ∙ ap (λ (q : Party). fresh_in q.stage left.node) same ∙ own in
      let part : for_fresh half (fresh_of w.parties left.node) fresh.node ≡ half = ap (λ o. for_fresh half o fresh.node) answer ∙ part-here fresh.node half fresh.node refl in
      let has = total_has (λ m. share m fresh.node) left.node 0 f.list listed in
      omega arith

  -- and one that a merge has left out what that lowered the sum by
  out_half : (i : ℕ) (p : Party) (h : Held) (left right : Grip) → get_elem? w.parties i ≡ some p → p.stage ≡ Joins h left right Joined → half ≤ out_of half w.parties right.node
  out_half i p h left right there is =
      let has = out_has half w.parties i p right.node there in
      let part : out_in half p.stage right.node ≡ half = ap (λ s. out_in half s right.node) is ∙ part-here right.node half right.node refl in
      omega arith

  abbrev Has : ℕ → Type 0
  Has k = half ≤ shared k + (gone_part half f.status k + out_of half w.parties k)

  listed_has : (k : ℕ) → IsListed f k → Has k
  listed_has k listed = let own = own_half k listed in omega arith

  -- a node that a party holds
  held_has : (k i : ℕ) (p : Party) (s : Stage) → get_elem? w.parties i ≡ some p → p.stage ≡ s → HoldsNode s k → k < l.nodes → f.status k ≡ live_status
      → Sure l w.generation f p.caller p.index p.since s → Has k
  held_has k i p Idle there is holds here live sure = absurd holds
  held_has k i p (Saw n v u t) there is holds here live sure = absurd holds
  held_has k i p (Wears n v) there is holds here live sure = absurd holds
  held_has k i p (Reads n v sight told) there is holds here live sure = absurd holds
  held_has k i p (Holds n u h) there is holds here live sure = subst Has holds (listed_has n (inside_listed l f lawful.list n h.name sure.inside))
  held_has k i p (Eyes n u h m v z free) there is holds here live sure = subst Has holds (listed_has n (inside_listed l f lawful.list n h.name sure.0.inside))
  held_has k i p (Splits left fresh (Filling lit)) there is (inl holds) here live sure = subst Has holds (listed_has left.node sure.at.listed)
  held_has k i p (Splits left fresh (Filling lit)) there is (inr holds) here live sure =
      subst Has holds (let other = fresh_half i p left fresh lit there is sure.at.listed in omega arith)
  held_has k i p (Splits left fresh Linked) there is (inl holds) here live sure = subst Has holds (listed_has left.node sure.at.listed)
  held_has k i p (Splits left fresh Linked) there is (inr holds) here live sure = subst Has holds (listed_has fresh.node sure.at.listed_fresh)
  held_has k i p (Splits left fresh Parted) there is (inl holds) here live sure = subst Has holds (listed_has left.node sure.at.listed)
  held_has k i p (Splits left fresh Parted) there is (inr holds) here live sure = subst Has holds (listed_has fresh.node sure.at.listed_fresh)
  held_has k i p (Leaves left) there is holds here live sure = subst Has holds (listed_has left.node sure.listed)
  held_has k i p (Meets n u h right) there is (inl holds) here live sure = subst Has holds (listed_has n (inside_listed l f lawful.list n h.name sure.0.inside))
  held_has k i p (Meets n u h right) there is (inr holds) here live sure =
      let listed = inside_listed l f lawful.list n h.name sure.0.inside in
      subst Has (sure.1.leads ∙ holds) (listed_has (f.now n _) (leads_on l f lawful.list n listed (λ z. sure.1.nonzero (sym sure.1.leads ∙ z))))
  held_has k i p (Joins h left right Gathered) there is (inl holds) here live sure = subst Has holds (listed_has left.node sure.at.linked.listed)
  held_has k i p (Joins h left right Gathered) there is (inr holds) here live sure = subst Has holds (listed_has right.node sure.at.linked.listed_fresh)
  held_has k i p (Joins h left right Joined) there is (inl holds) here live sure = subst Has holds (listed_has left.node sure.at.listed)
  held_has k i p (Joins h left right Joined) there is (inr holds) here live sure = subst Has holds (let lowered = out_half i p h left right there is in omega arith)
  held_has k i p (Joins h left right Gone) there is (inl holds) here live sure = subst Has holds (listed_has left.node sure.at.listed)
  held_has k i p (Joins h left right Gone) there is (inr holds) here live sure =
      let gone : f.status k ≡ gone_status = ap f.status (sym holds) ∙ sure.at.gone in
      absurd (omega (arith, gone, live))

  -- each node has its half
  each_has : (k : ℕ) → k < l.nodes → Has k
  each_has k here = ⊎_elim
      (λ (live : f.status k ≡ live_status). ⊎_elim
      (λ (free : IsFree (f.version k) w.generation). listed_has k (lawful.live.listed k here live free))
      (λ (held : IsHeld w.parties k). held_has k held.number held.party held.party.stage held.there refl held.holds here live (lawful.sure held.number held.party held.there))
      (lawful.held k here))
      (λ (other : f.status k ≢ live_status).
      let gone : f.status k ≡ gone_status = let three = lawful.live.three k here in let some_use = used k here in omega (arith, some_use, other) in
      let part : gone_part half f.status k ≡ half = ap (λ b. cond b half 0) (eq-eqb (f.status k) gone_status gone) in
      omega arith)
      (cases_eq (f.status k) live_status)

  pub in_use_weighs : l.nodes * half ≤ weight_sum w
  in_use_weighs =
      let least = sum_least half l.nodes (λ k. shared k + (gone_part half f.status k + out_of half w.parties k)) each_has in
      let outer = sum_plus l.nodes shared (λ k. gone_part half f.status k + out_of half w.parties k) in
      let inner = sum_plus l.nodes (gone_part half f.status) (out_of half w.parties) in
      let listed = shared_sum in
      let gone = gone_sum half f.status l.nodes in
      let lowered = out_sums l f l.nodes w.parties in
      omega arith

pub use_weighs : UseWeighs
use_weighs w lawful full used = in_use_weighs w lawful full used
