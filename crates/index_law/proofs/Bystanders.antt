-- What a party relies on stays where the words of its node, and the map on its range, stay.
use Rattle.std.proofs.Common.{◌≡◌, ◌≢◌, ℕ, ◌<◌, ◌≤◌, ◌⊎◌, inl, inr, ⊎_elim, leb, Bool, true, false, cond, List, [], ◌∷◌, ◌++◌, length, refl, sym, ap, ◌∙◌, subst, arith}
use Rattle.std.specs.Prelude.{◌==◌, ◌||◌, if◌then◌else◌, slice_get, Option, Some, None, IfSome}
use Rattle.std.proofs.lemmas.Bool.{eqb-true, ne_eqb, leb-true, leb-false}
use Rattle.std.proofs.lemmas.List.{append-nil, length-append}
use Rattle.pm_words.specs.declared.layout.Layout.{Layout}
use Rattle.pm_words.specs.Codes.{free_status}
use Rattle.pm_words.specs.Offsets.{next_offset}
use Rattle.cat_history.specs.Maps.{Map, at}
use Rattle.cat_history.specs.Writes.{name_of, after}
use Rattle.cat_history.proofs.ChangeLemmas.{at-changed_other}
use Rattle.cat_history.specs.declared.op.Change.{Change}
use Rattle.cat_history.specs.declared.op.Write.{Write}
use Rattle.data_node.specs.Spots.{Spot, Means, updated}
use Rattle.std.specs.List.{AllByRecursion}
use Rattle.version_lock.specs.Versions.{IsFree, IsWorn}
use Rattle.data_node.specs.Lists.{StaysIn}
use Rattle.call_stages.specs.Stages.{Knows, Held, Sight, Grip, Tells, AreCopies, Phase, Filling, Linked, Parted, Pace, Gathered, Joined, Gone, Stage, Idle, Saw, Wears, Reads, Holds, Eyes, Splits, Leaves, Meets, Joins, pended}
use Rattle.index_law.specs.Facts.{Facts, map_now, range_of, cached_word, IsListed}
use Rattle.index_law.specs.Lawful.{IsRead, SureReads, IsTime, HasWriteAt, IsPlaced, map_before, IsSettled, IsAsked, Stands, SureSaw, SureEyes, SureWears, SureHolds, SureGrip, IsAtPhase, IsList, SureCounted, IsAtPace, Sure}
use Rattle.call_stages.specs.Stages.{HoldsNode}
use Rattle.index_law.proofs.Switch.{one_range, leads_on}
use Rattle.index_law.proofs.Stays.{both_true}
use Rattle.call_stages.specs.Kinds.{from_key}
use Rattle.data_node.specs.Lists.{anchor_in}
use Rattle.data_node.specs.Weights.{names_in}
use Rattle.index_law.proofs.Maps.{at-changed_alike, after_all-push, after-longer, after-whole, slice_get-longer, means_alike}
use Rattle.index_law.proofs.Rows.{with_version, with_status, with_word, with_writes}

-- what holds of what is there holds of it in another way
pub if_some : {A : Type 0} (P Q : A → Type 0) (o : Option A) → ((a : A) → P a → Q a) → IfSome o P → IfSome o Q
if_some P Q None step holds = tt
if_some P Q (Some a) step holds = step a holds

-- the base stays, and the history grows at its end, by one write at most
pub record IsLater (f f' : Facts) : Type 0 where
  pub base : f'.base ≡ f.base
  pub more : List Write
  pub few : length more ≤ 1
  pub history : f'.history ≡ f.history ++ more

-- what the holder of a node relies on stays
pub record IsSteady (l : Layout) (f f' : Facts) (n : ℕ) : Type 0 where
  pub version : f'.version n ≡ f.version n
  pub now : f'.now n ≡ f.now n
  pub map : (name : List ℕ) → range_of l f n name ≡ true → at (map_now f') name ≡ at (map_now f) name
  pub range : range_of l f' n ≡ range_of l f n
  pub listed : IsListed f n → IsListed f' n
  pub unlisted : IsListed f' n → IsListed f n
  pub status : f'.status n ≡ f.status n

-- No version word falls, what a free node's watchers rely on stays where its version word does, and so do the anchors of
-- listed nodes and that a node leads to one of the layout's.
pub record IsCalm (l : Layout) (g : ℕ) (f f' : Facts) : Type 0 where
  pub rises : (n : ℕ) → n < l.nodes → f.version n ≤ f'.version n
  pub steady : (n : ℕ) → n < l.nodes → IsFree (f.version n) g → f'.version n ≡ f.version n → IsSteady l f f' n
  pub anchors : (n : ℕ) → IsListed f n → (offset : ℕ) → 3 ≤ offset → offset ≤ 5 → f'.now n offset ≡ f.now n offset
  pub leads : (n : ℕ) → f.now n next_offset < l.nodes → f'.now n next_offset < l.nodes
  pub worn : (n : ℕ) → n < l.nodes → IsFree (f.version n) g → IsWorn (f.version n) g → f'.version n ≡ f.version n

-- what is seen of the next node's anchor
beyond_kept : (t t' : Spot) (seen : List (ℕ × ℕ)) → ((offset : ℕ) → 3 ≤ offset → offset ≤ 5 → t' offset ≡ t offset)
    → AllByRecursion (λ (w : ℕ × ℕ). (3 ≤ w.0) × (w.0 ≤ 5) × (t w.0 ≡ w.1)) seen → AllByRecursion (λ (w : ℕ × ℕ). (3 ≤ w.0) × (w.0 ≤ 5) × (t' w.0 ≡ w.1)) seen
beyond_kept t t' [] same all = tt
beyond_kept t t' (w ∷ seen) same all = ((all.0.0, all.0.1, same w.0 all.0.0 all.0.1 ∙ all.0.2), beyond_kept t t' seen same all.1)

-- a node in hand, with other words known, dirty or in hand
pub regrasp : (l : Layout) (g : ℕ) (f : Facts) (k : Grip) (seen dirty : List (ℕ × ℕ)) (hand : Option (ℕ × ℕ)) → Tells seen (f.now k.node) → IfSome hand (λ hand. cached_word f k.node hand.0 ≡ hand.1)
    → SureGrip l g f k → SureGrip l g f (record k { seen = seen; dirty = dirty; hand = hand })
regrasp l g f k seen dirty hand tells in_hand sure = record { here = sure.here; stands = sure.stands; lock = sure.lock; seen = tells; hand = in_hand }

-- a word of a node that was told
pub told_word : (f : Facts) (n offset x : ℕ) → x ≡ cached_word f n offset → 0 < offset → f.now n offset ≡ x
told_word f n offset x told positive = sym (told ∙ ap (λ (b : Bool). cond b (f.version n) (f.now n offset)) (ne_eqb offset 0 (λ z. omega arith)))

-- what a party saw of a node stands on where facts change, or it sees more
pub saw_on : (l : Layout) (g : ℕ) (f f' : Facts) (n v w : ℕ) (k k' : Sight) → v ≤ f'.version n → (k'.live ≡ true → f'.now n next_offset < l.nodes) → (f'.version n ≡ v → Stands f' n k')
    → SureSaw l g f n v w k → SureSaw l g f' n v w k'
saw_on l g f f' n v w k k' seen leads stands knows = record { word = knows.word; seen = seen; leads = leads; stands = stands }

pub eyes_on : (l : Layout) (g : ℕ) (f f' : Facts) (h : Held) (m v u : ℕ) (free free' : Bool) → v ≤ f'.version m → (f'.version m ≡ v → free' ≡ true → f'.status m ≡ free_status)
    → SureEyes l g f h m v u free → SureEyes l g f' h m v u free'
eyes_on l g f f' h m v u free free' seen stands knows = assumption knows

module _ (l : Layout) (g : ℕ) (f f' : Facts) (later : IsLater f f') where
  longer : length f.history ≤ length f'.history
  longer = let same = ap length later.history in let parts = length-append f.history later.more in omega arith

  -- the map of a place stays
  after_kept : (k : ℕ) → k ≤ length f.history → after f'.base f'.history k ≡ after f.base f.history k
  after_kept k within = (λ i. after (later.base i) (later.history i) k) ∙ after-longer f.base f.history later.more k within

  write_kept : (caller index : ℕ) (name : List ℕ) (place : ℕ) → HasWriteAt f.history caller index name place → HasWriteAt f'.history caller index name place
  write_kept caller index name place write = record {
    change = write.change;
    about = write.about;
    stands = ap (λ (h : List Write). slice_get h place) later.history ∙ slice_get-longer f.history later.more place _ write.stands;
  }

  placed_kept : (caller index since : ℕ) (name : List ℕ) (place : ℕ) → IsPlaced f.history caller index since name place → IsPlaced f'.history caller index since name place
  placed_kept caller index since name place placed = record {
    later = placed.later;
    within = let within = placed.within in let longer' = longer in omega arith;
    write = write_kept caller index name place placed.write;
  }

  module _ (n : ℕ) (steady : IsSteady l f f' n) where
    time_kept : (since : ℕ) (limit : Option ℕ) (clock : ℕ) → IsTime (range_of l f n) f.base f.history since limit clock → IsTime (range_of l f' n) f'.base f'.history since limit clock
    time_kept since limit clock time = subst (λ (r : List ℕ → Bool). IsTime r f'.base f'.history since limit clock) (sym steady.range) (record {
      later = time.later;
      within = let within = time.within in let longer' = longer in omega arith;
      below = time.below;
      same = λ place late here name inside. ⊎_elim
          (λ (old : place ≤ length f.history). ap (λ (m : Map). at m name) (after_kept place old) ∙ time.same place late old name inside ∙ sym (steady.map name inside))
          (λ (new : length f.history < place). ap (λ (m : Map). at m name) (after-whole f'.base f'.history place (whole place new here)))
          (leb_cases place (length f.history));
    })
      where
        whole : (place : ℕ) → length f.history < place → place ≤ length f'.history → place ≡ length f'.history
        whole place new here = let same = ap length later.history in let parts = length-append f.history later.more in let few = later.few in omega arith

        leb_cases : (a b : ℕ) → (a ≤ b) ⊎ (b < a)
        leb_cases a b = elim (leb a b) as (λ c. leb a b ≡ c → (a ≤ b) ⊎ (b < a)) [
          | true ↦ λ is. inl (leb-true a b is)
          | false ↦ λ is. inr (leb-false a b is)
        ] refl

    old_kept : (caller index since : ℕ) (name : List ℕ) → range_of l f n name ≡ true → (placed : Option ℕ) → IfSome placed (IsPlaced f.history caller index since name)
        → at (map_before f' placed) name ≡ at (map_before f placed) name
    old_kept caller index since name inside None tells = steady.map name inside
    old_kept caller index since name inside (Some place) tells = let within = tells.within in ap (λ (m : Map). at m name) (after_kept place (omega arith))

    pub pended_alike : (pending : Option Change) (name : List ℕ) → range_of l f n name ≡ true → at (pended pending (map_now f')) name ≡ at (pended pending (map_now f)) name
    pended_alike None name inside = steady.map name inside
    pended_alike (Some c) name inside = at-changed_alike (map_now f) (map_now f') c name (steady.map name inside)

    means_kept : (slots : ℕ) (pending : Option Change) → Means slots (range_of l f n) (f.now n) (pended pending (map_now f)) → Means slots (range_of l f' n) (f'.now n) (pended pending (map_now f'))
    means_kept slots pending means = subst (λ (r : List ℕ → Bool). Means slots r (f'.now n) (pended pending (map_now f'))) (sym steady.range)
        (subst (λ (s : Spot). Means slots (range_of l f n) s (pended pending (map_now f'))) (sym steady.now)
        (means_alike slots (range_of l f n) (f.now n) (pended pending (map_now f)) (pended pending (map_now f')) (pended_alike pending) means))

    stays_kept : StaysIn l.slots (range_of l f n) (f.now n) → StaysIn l.slots (range_of l f' n) (f'.now n)
    stays_kept stays = (λ (r : List ℕ → Bool) (s : Spot) (is : range_of l f n ≡ r) (same : f.now n ≡ s). subst (λ q. StaysIn l.slots q s) is (subst (StaysIn l.slots (range_of l f n)) same stays))
        (range_of l f' n) (f'.now n) (sym steady.range) (sym steady.now)

    pub settled_kept : IsSettled l f n → IsSettled l f' n
    settled_kept settled = record { means = means_kept l.slots None settled.means; stays = stays_kept settled.stays }

    -- what a call that is counted needs to answer
    pub counted_kept : (caller index since : ℕ) (h : Held) → SureCounted l f caller index since n h → SureCounted l f' caller index since n h
    counted_kept caller index since h knows = record {
      unmerged = knows.unmerged;
      named = knows.named;
      inside = (λ i. steady.range i h.name) ∙ knows.inside;
      below = knows.below;
      old = if_some (λ old. at (map_before f h.placed) h.name ≡ old) (λ old. at (map_before f' h.placed) h.name ≡ old) h.old
          (λ old was. old_kept caller index since h.name knows.inside h.placed knows.placed ∙ was) knows.old;
      placed = if_some (IsPlaced f.history caller index since h.name) (IsPlaced f'.history caller index since h.name) h.placed (placed_kept caller index since h.name) knows.placed;
    }

    pub holds_kept : (caller index since w : ℕ) (h : Held) → SureHolds l g f caller index since n w h → SureHolds l g f' caller index since n w h
    holds_kept caller index since w h knows = record {
      here = knows.here;
      stands = steady.version ∙ knows.stands;
      lock = knows.lock;
      named = knows.named;
      inside = (λ i. steady.range i h.name) ∙ knows.inside;
      knows = subst (Knows h.name h.known) (sym steady.now) knows.knows;
      hand = if_some (λ hand. cached_word f n hand.0 ≡ hand.1) (λ hand. cached_word f' n hand.0 ≡ hand.1) h.hand
          (λ hand is. (λ k. if hand.0 == 0 then steady.version k else steady.now k hand.0) ∙ is) knows.hand;
      means = means_kept l.slots h.pending knows.means;
      stays = stays_kept knows.stays;
      about = knows.about;
      shown = knows.shown;
      below = knows.below;
      time = if_some (IsTime (range_of l f n) f.base f.history since h.limit) (IsTime (range_of l f' n) f'.base f'.history since h.limit) h.time (time_kept since h.limit) knows.time;
      old = if_some (λ old. at (map_before f h.placed) h.name ≡ old) (λ old. at (map_before f' h.placed) h.name ≡ old) h.old
          (λ old was. old_kept caller index since h.name knows.inside h.placed knows.placed ∙ was) knows.old;
      placed = if_some (IsPlaced f.history caller index since h.name) (IsPlaced f'.history caller index since h.name) h.placed (placed_kept caller index since h.name) knows.placed;
    }

    -- what a reader learnt of a node
    pub read_kept : (since : ℕ) (h : Held) → IsRead l f since n h → IsRead l f' since n h
    read_kept since h knows = record {
      listed = steady.listed knows.listed;
      named = knows.named;
      inside = (λ i. steady.range i h.name) ∙ knows.inside;
      settled = settled_kept knows.settled;
      knows = subst (Knows h.name h.known) (sym steady.now) knows.knows;
      time = if_some (IsTime (range_of l f n) f.base f.history since None) (IsTime (range_of l f' n) f'.base f'.history since None) h.time (time_kept since None) knows.time;
      old = if_some (λ old. at (map_now f) h.name ≡ old) (λ old. at (map_now f') h.name ≡ old) h.old (λ old was. steady.map h.name knows.inside ∙ was) knows.old;
    }

  pub grip_kept : (k : Grip) → IsSteady l f f' k.node → SureGrip l g f k → SureGrip l g f' k
  grip_kept k steady knows = record {
    here = knows.here;
    stands = steady.version ∙ knows.stands;
    lock = knows.lock;
    seen = subst (Tells k.seen) (sym steady.now) knows.seen;
    hand = if_some (λ hand. cached_word f k.node hand.0 ≡ hand.1) (λ hand. cached_word f' k.node hand.0 ≡ hand.1) k.hand
        (λ hand is. (λ i. if hand.0 == 0 then steady.version i else steady.now i hand.0) ∙ is) knows.hand;
  }

  module _ (n m : ℕ) (one : IsSteady l f f' n) (other : IsSteady l f f' m) where
    -- the ranges of two nodes together
    abbrev joined : Facts → List ℕ → Bool
    joined φ name = range_of l φ n name || range_of l φ m name

    joined_same : joined f' ≡ joined f
    joined_same = λ i name. one.range i name || other.range i name

    joined_map : (name : List ℕ) → joined f name ≡ true → at (map_now f') name ≡ at (map_now f) name
    joined_map name inside = elim (range_of l f n name) as (λ b. range_of l f n name ≡ b → (b || range_of l f m name) ≡ true → at (map_now f') name ≡ at (map_now f) name) [
      | true ↦ λ is _. one.map name is
      | false ↦ λ _ is. other.map name is
    ] refl inside

    pub joined_means : Means l.slots (joined f) (f.now n) (map_now f) → Means l.slots (joined f') (f'.now n) (map_now f')
    joined_means means = subst (λ (r : List ℕ → Bool). Means l.slots r (f'.now n) (map_now f')) (sym joined_same)
        (subst (λ (s : Spot). Means l.slots (joined f) s (map_now f')) (sym one.now) (means_alike l.slots (joined f) (f.now n) (map_now f) (map_now f') joined_map means))

    pub joined_stays : StaysIn l.slots (joined f) (f.now n) → StaysIn l.slots (joined f') (f'.now n)
    joined_stays stays = subst (λ (r : List ℕ → Bool). StaysIn l.slots r (f'.now n)) (sym joined_same) (subst (StaysIn l.slots (joined f)) (sym one.now) stays)

  -- what a split knows of the name that it is about
  pub asked_kept : (k : Grip) → IsSteady l f f' k.node → IsAsked l f k → IsAsked l f' k
  asked_kept k one knows = record {
    named = knows.named;
    inside = (λ i. one.range i k.name) ∙ knows.inside;
    had = still k.old (one.map k.name knows.inside) knows.had;
    lacked = knows.lacked;
  }
    where
      still : {m m' : Option ℕ} (o : Option (Option ℕ)) → m' ≡ m → IfSome o (λ old. m ≡ old) → IfSome o (λ old. m' ≡ old)
      still None same had = tt
      still (Some old) same had = same ∙ had

  phase_kept : (left fresh : Grip) (phase : Phase) → IsSteady l f f' left.node → IsSteady l f f' fresh.node → IsAtPhase l f left fresh phase → IsAtPhase l f' left fresh phase
  phase_kept left fresh (Filling lit) one other knows = record {
    listed = one.listed knows.listed;
    unlisted = λ is. knows.unlisted (other.unlisted is);
    settled = settled_kept left.node one knows.settled;
    asked = asked_kept left one knows.asked;
    bright = λ is. other.status ∙ knows.bright is;
    dark = λ is. other.status ∙ knows.dark is;
  }
  phase_kept left fresh Linked one other knows = record {
    listed = one.listed knows.listed;
    listed_fresh = other.listed knows.listed_fresh;
    leads = ap (λ (s : Spot). s next_offset) one.now ∙ knows.leads;
    means = joined_means left.node fresh.node one other knows.means;
    stays = joined_stays left.node fresh.node one other knows.stays;
    settled = settled_kept fresh.node other knows.settled;
  }
  phase_kept left fresh Parted one other knows = record {
    listed = one.listed knows.listed;
    listed_fresh = other.listed knows.listed_fresh;
    settled_left = settled_kept left.node one knows.settled_left;
    settled = settled_kept fresh.node other knows.settled;
  }

  pace_kept : (left right : Grip) (pace : Pace) → IsSteady l f f' left.node → IsSteady l f f' right.node → IsAtPace l f left right pace → IsAtPace l f' left right pace
  pace_kept left right Gathered one other knows =
      let names : names_in l.slots (λ name. range_of l f' left.node name || range_of l f' right.node name) (f'.now left.node)
      ≡ names_in l.slots (λ name. range_of l f left.node name || range_of l f right.node name) (f.now left.node) =
      λ i. names_in l.slots (λ name. one.range i name || other.range i name) (one.now i) in
      record { linked = phase_kept left right Linked one other knows.linked; few = let few = knows.few in omega arith }
  pace_kept left right Joined one other knows =
      let a : ℕ = anchor_in (f.now right.node) in
      let same : anchor_in (f'.now right.node) ≡ a = ap anchor_in other.now in
      let low : anchor_in (f'.now left.node) ≡ anchor_in (f.now left.node) = ap anchor_in one.now in
      let names : names_in l.slots (range_of l f' left.node) (f'.now left.node) ≡ names_in l.slots (range_of l f left.node) (f.now left.node) = λ i. names_in l.slots (one.range i) (one.now i) in
      record {
        listed = one.listed knows.listed;
        unlisted = λ is. knows.unlisted (other.unlisted is);
        settled = settled_kept left.node one knows.settled;
        bright = other.status ∙ knows.bright;
        leads = ap (λ (s : Spot). s next_offset) one.now ∙ knows.leads ∙ sym (ap (λ (s : Spot). s next_offset) other.now);
        anchor = knows.anchor;
        named = knows.named;
        anchored = same ∙ knows.anchored;
        inside = (λ i. one.range i knows.anchor) ∙ knows.inside;
        up = let up = knows.up in omega arith;
        kept = subst (λ (s : Spot). Means l.slots (from_key (range_of l f' left.node) (anchor_in s)) s (map_now f')) (sym other.now)
            (subst (λ (r : List ℕ → Bool). Means l.slots (from_key r a) (f.now right.node) (map_now f')) (sym one.range)
            (means_alike l.slots (from_key (range_of l f left.node) a) (f.now right.node) (map_now f) (map_now f') (λ name inside. one.map name (both_true (range_of l f left.node name) _ inside)) knows.kept));
        few = let few = knows.few in omega arith;
      }
  pace_kept left right Gone one other knows = record {
    listed = one.listed knows.listed;
    unlisted = λ is. knows.unlisted (other.unlisted is);
    settled = settled_kept left.node one knows.settled;
    gone = other.status ∙ knows.gone;
    anchor = knows.anchor;
    named = knows.named;
    anchored = ap anchor_in other.now ∙ knows.anchored;
    inside = (λ i. one.range i knows.anchor) ∙ knows.inside;
  }

  pub stands_kept : (n : ℕ) (k : Sight) → IsSteady l f f' n → IsCalm l g f f' → IsList l f → Stands f n k → Stands f' n k
  stands_kept n k steady calm list was =
      let next : f'.now n next_offset ≡ f.now n next_offset = ap (λ (s : Spot). s next_offset) steady.now in
      record {
        listed = λ live. steady.listed (was.listed live);
        sees = record {
          seen = subst (λ (s : Spot). AllByRecursion (λ (w : ℕ × ℕ). s w.0 ≡ w.1) k.seen) (sym steady.now) was.sees.seen;
          leads = λ ne. next ∙ was.sees.leads ne;
          beyond = λ ne. beyond_kept (f.now (f.now n next_offset)) (f'.now (f'.now n next_offset)) k.beyond
              (λ offset low high. ap (λ (m : ℕ). f'.now m offset) next ∙ calm.anchors (f.now n next_offset) (leads_on l f list n (was.leads ne) (λ z. ne (sym (was.sees.leads ne) ∙ z))) offset low high) (was.sees.beyond ne);
        };
        leads = λ ne. steady.listed (was.leads ne);
      }

  -- what a party saw where all is calm
  saw_kept : IsList l f → IsCalm l g f f' → (n v w : ℕ) (k : Sight) → SureSaw l g f n v w k → SureSaw l g f' n v w k
  saw_kept list calm n v w k knows =
      let seen = knows.seen in
      let rise = calm.rises n knows.word.here in
      saw_on l g f f' n v w k k (omega arith) (λ live. calm.leads n (knows.leads live)) (λ is.
      let same : f.version n ≡ v = omega arith in
      stands_kept n k (calm.steady n knows.word.here (subst (λ (u : ℕ). IsFree u g) (sym same) knows.word.free) (is ∙ sym same)) calm list (knows.stands same)) knows

  -- what a reader saw and read where all is calm
  reads_kept : IsList l f → IsCalm l g f f' → (since n v : ℕ) (k : Sight) (h : Option Held) → SureReads l g f since n v k h → SureReads l g f' since n v k h
  reads_kept list calm since n v k h knows =
      let seen = knows.seen in
      let rise = calm.rises n knows.here in
      record {
        here = knows.here;
        known = knows.known;
        free = knows.free;
        seen = omega arith;
        reader = knows.reader;
        stands = λ is.
            let same : f.version n ≡ v = omega arith in
            stands_kept n k (calm.steady n knows.here (subst (λ (u : ℕ). IsFree u g) (sym same) knows.free) (is ∙ sym same)) calm list (knows.stands same);
        read = λ is.
            let same : f.version n ≡ v = omega arith in
            let steady = calm.steady n knows.here (subst (λ (u : ℕ). IsFree u g) (sym same) knows.free) (is ∙ sym same) in
            if_some (IsRead l f since n) (IsRead l f' since n) h (read_kept n steady since) (knows.read same);
      }

  eyes_kept : IsCalm l g f f' → (h : Held) (m v u : ℕ) (free : Bool) → SureEyes l g f h m v u free → SureEyes l g f' h m v u free
  eyes_kept calm h m v u free knows =
      let seen = knows.seen in
      let rise = calm.rises m knows.word.here in
      eyes_on l g f f' h m v u free free (omega arith) (λ is told.
      let same : f.version m ≡ v = omega arith in
      (calm.steady m knows.word.here (subst (λ (u : ℕ). IsFree u g) (sym same) knows.word.free) (is ∙ sym same)).status ∙ knows.stands same told) knows

  wears_kept : IsCalm l g f f' → (n v : ℕ) → SureWears l g f n v → SureWears l g f' n v
  wears_kept calm n v knows = record {
    here = knows.here;
    free = knows.free;
    worn = knows.worn;
    stands = calm.worn n knows.here (subst (λ (u : ℕ). IsFree u g) (sym knows.stands) knows.free) (subst (λ (u : ℕ). IsWorn u g) (sym knows.stands) knows.worn) ∙ knows.stands;
  }

  -- a party keeps what it knows where the nodes that it holds are steady, and what it saw of others stays
  module _ (saw : (n v w : ℕ) (k : Sight) → SureSaw l g f n v w k → SureSaw l g f' n v w k)
      (eyes : (h : Held) (m v u : ℕ) (free : Bool) → SureEyes l g f h m v u free → SureEyes l g f' h m v u free) (wears : (n v : ℕ) → SureWears l g f n v → SureWears l g f' n v)
      (reads : (since n v : ℕ) (k : Sight) (h : Option Held) → SureReads l g f since n v k h → SureReads l g f' since n v k h) where
    pub keeps_by : (caller index since : ℕ) (u : Stage) → ((n : ℕ) → HoldsNode u n → IsSteady l f f' n) → Sure l g f caller index since u → Sure l g f' caller index since u
    keeps_by caller index since Idle steady knows = tt
    keeps_by caller index since (Saw n v w k) steady knows = saw n v w k knows
    keeps_by caller index since (Holds n w h) steady knows = holds_kept n (steady n refl) caller index since w h knows
    keeps_by caller index since (Eyes n w h m v u free) steady knows = (holds_kept n (steady n refl) caller index since w h knows.0, eyes h m v u free knows.1)
    keeps_by caller index since (Wears n v) steady knows = wears n v knows
    keeps_by caller index since (Reads n v k h) steady knows = reads since n v k h knows
    keeps_by caller index since (Leaves left) steady knows =
        let one = steady left.node refl in
        record { grip = grip_kept left one knows.grip; listed = one.listed knows.listed; settled = settled_kept left.node one knows.settled }
    keeps_by caller index since (Meets n w h right) steady knows =
        let one = steady n (inl refl) in
        let other = steady right.node (inr refl) in (
          holds_kept n one caller index since w h knows.0,
          record {
            still = knows.1.still;
            untimed = knows.1.untimed;
            unmerged = knows.1.unmerged;
            grip = grip_kept right other knows.1.grip;
            copies = (λ (s t : Spot) (is : f.now n ≡ s) (same : f.now right.node ≡ t). subst (λ q. AreCopies right.copied q t) is (subst (AreCopies right.copied (f.now n)) same knows.1.copies))
                (f'.now n) (f'.now right.node) (sym one.now) (sym other.now);
            apart = knows.1.apart;
            nonzero = knows.1.nonzero;
            leads = ap (λ (s : Spot). s next_offset) one.now ∙ knows.1.leads;
            settled = settled_kept right.node other knows.1.settled;
          },
        )
    keeps_by caller index since (Joins h left right pace) steady knows =
        let one = steady left.node (inl refl) in
        let other = steady right.node (inr refl) in
        record {
          call = counted_kept left.node one caller index since h knows.call;
          one = grip_kept left one knows.one;
          other = grip_kept right other knows.other;
          apart = knows.apart;
          nonzero = knows.nonzero;
          at = pace_kept left right pace one other knows.at;
        }
    keeps_by caller index since (Splits left fresh phase) steady knows =
        let one = steady left.node (inl refl) in
        let other = steady fresh.node (inr refl) in
        record {
          full = grip_kept left one knows.full;
          new = grip_kept fresh other knows.new;
          apart = knows.apart;
          nonzero = knows.nonzero;
          at = phase_kept left fresh phase one other knows.at;
        }

  -- so it does where all is calm
  pub keeps : (caller index since : ℕ) (u : Stage) → IsList l f → IsCalm l g f f' → ((n : ℕ) → HoldsNode u n → IsSteady l f f' n)
      → Sure l g f caller index since u → Sure l g f' caller index since u
  keeps caller index since u list calm = keeps_by (saw_kept list calm) (eyes_kept calm) (wears_kept calm) (reads_kept list calm) caller index since u

-- a number that is another one only where it is no smaller
version_by : (v w : ℕ) (b : Bool) → (b ≡ true → v ≤ w) → v ≤ cond b w v
version_by v w true rise = rise refl
version_by v w false rise = omega arith

module _ (l : Layout) (f : Facts) where
  -- another version word
  pub later-version : (n w : ℕ) → IsLater f (with_version f n w)
  later-version n w = record { base = refl; more = []; few = omega arith; history = sym (append-nil f.history) }

  pub rises-version : (n w : ℕ) → f.version n ≤ w → (m : ℕ) → f.version m ≤ (with_version f n w).version m
  rises-version n w rise m = version_by (f.version m) w (m == n) (λ same. let alike = ap f.version (eqb-true m n same) in omega arith)

  pub steady-version : (n w m : ℕ) → m ≢ n → IsSteady l f (with_version f n w) m
  steady-version n w m other = record { version = ap (λ (b : Bool). cond b w (f.version m)) (ne_eqb m n other); now = refl; map = λ name inside. refl; range = refl; listed = λ is. is; unlisted = λ is. is; status = refl }

  -- another word of a node
  pub later-word : (n offset y : ℕ) → IsLater f (with_word f n offset y)
  later-word n offset y = record { base = refl; more = []; few = omega arith; history = sym (append-nil f.history) }

  pub steady-word : (n offset y m : ℕ) → m ≢ n → IsSteady l f (with_word f n offset y) m
  steady-word n offset y m other = record { version = refl; now = ap (λ (b : Bool). cond b (updated (f.now n) offset y) (f.now m)) (ne_eqb m n other); map = λ name inside. refl; range = refl; listed = λ is. is; unlisted = λ is. is; status = refl }

  -- one more write
  pub later-write : (write : Write) → IsLater f (with_writes f (write ∷ []))
  later-write write = record { base = refl; more = write ∷ []; few = omega arith; history = refl }

  -- it leaves the map at every other name
  pub map-write : (write : Write) (name : List ℕ) → name ≢ name_of write.change → at (map_now (with_writes f (write ∷ []))) name ≡ at (map_now f) name
  map-write write name other = ap (λ (m : Map). at m name) (after_all-push f.base f.history write) ∙ at-changed_other (map_now f) write.change name other

  pub steady-write : (n : ℕ) (write : Write) (m : ℕ) → range_of l f n (name_of write.change) ≡ true → m ≢ n → IsSteady l f (with_writes f (write ∷ [])) m
  steady-write n write m mine other = record {
    version = refl;
    now = refl;
    map = λ name inside. map-write write name (λ same. other (one_range l f m n name inside (subst (λ (k : List ℕ). range_of l f n k ≡ true) (sym same) mine)));
    range = refl;
    listed = λ is. is;
    unlisted = λ is. is;
    status = refl;
  }

  -- another status
  pub later-status : (n x : ℕ) → IsLater f (with_status f n x)
  later-status n x = record { base = refl; more = []; few = omega arith; history = sym (append-nil f.history) }

  pub steady-status : (n x m : ℕ) → m ≢ n → IsSteady l f (with_status f n x) m
  steady-status n x m other = record {
    version = refl;
    now = refl;
    map = λ name inside. refl;
    range = refl;
    listed = λ is. is;
    unlisted = λ is. is;
    status = ap (λ (b : Bool). cond b x (f.status m)) (ne_eqb m n other);
  }
