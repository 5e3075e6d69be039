-- What a party may do can be done.
use Rattle.std.proofs.Common.{◌≡◌, ◌≢◌, inl, ⊎_elim, ℕ, ◌<◌, ◌≤◌, ◌^◌, true, List, length, slice_index, refl, sym, ap, ◌∙◌, subst, arith}
use Rattle.std.proofs.Common.{◌+◌}
use Rattle.std.proofs.lemmas.Nat.{same_from_place}
use Rattle.pm_words.specs.Codes.{live_status}
use Rattle.pm_words.specs.declared.layout.Layout.{Layout}
use Rattle.pm_words.specs.declared.action.Action.{Action}
use Rattle.pm_words.specs.declared.action.Action.TheVariants.{Load, Store, Exchange, Add, Drain}
use Rattle.pm_words.specs.Locations.{Cached, Clock, Node, Volatile, node_words}
use Rattle.pm_words.specs.Rows.{CanChange, IsOutsideHeader, given, got, action_address}
use Rattle.pm_words.proofs.Apart.{addresses_within}
use Rattle.pm_words.proofs.Kept.{outside_header, keeps_header, names_cached}
use Rattle.version_lock.specs.declared.TheConstants.{GENERATION_LIMIT}
use Rattle.version_lock.specs.Versions.{generation_of}
use Rattle.call_stages.specs.Stages.{Stage, Sight, Held, Grip, Saw, Holds, Meets}
use Rattle.std.proofs.lemmas.Bool.{cases_eq}
use Rattle.data_node.proofs.ListLemmas.{all_member}
use Rattle.index_law.proofs.Switch.{leads_on, inside_listed}
use Rattle.cat_history.specs.Maps.{Map}
use Rattle.cat_history.specs.declared.op.Write.{Write}
use Rattle.data_node.specs.Spots.{Spot}
use Rattle.data_node.specs.Lists.{anchor_in}
use Rattle.pm_words.specs.Offsets.{version_offset, next_offset, anchor_offset, status_offset, prev_offset}
use Rattle.call_stages.specs.Kinds.{Told, HasWordAt, clock_address, word_address, version_address, status_address, prev_address, LeadsWithin}
use Rattle.index_law.specs.Facts.{Facts, IsListed, facts_of, version_in}
use Rattle.index_law.specs.Worlds.{World, facts}
use Rattle.index_law.specs.Lawful.{AreLive, IsList, Sure, SureSaw, SureHolds, SureMeets}
use Rattle.index_law.specs.Laws.{Allowed, loads_clock, loads_word, loads_status, loads_prev, exchanges, exchanges_read, stores_word, stores_status, drains_word, adds, claims_node, frees_fresh, frees_left, frees_met, frees_right, frees, AllowedMayName, AllowedCanAct}
use Rattle.index_law.proofs.Rows.{version_in-here, status_in-here, spot_in-here}
use Rattle.index_law.proofs.Versions.{own_lock, lock_fits}

-- the clock and the words of a node stand beside the header
pub clock_outside : (l : Layout) → IsOutsideHeader l (clock_address l)
clock_outside l = outside_header l Clock tt (λ k lt. (λ e. cc, λ e. cc))

node_outside : (l : Layout) (n offset : ℕ) → HasWordAt l n offset → IsOutsideHeader l (word_address l n offset)
node_outside l n offset has = outside_header l (Cached (Node n offset)) has (λ k lt. (λ e. cc, λ e. cc))

pub status_outside : (l : Layout) (n : ℕ) → n < l.nodes → IsOutsideHeader l (status_address l n)
status_outside l n here = outside_header l (Volatile n status_offset) (here, omega arith) (λ k lt. (λ e. cc, λ e. cc))

pub may_name : AllowedMayName
may_name l s a loads_clock = addresses_within l Clock tt
may_name l s a (loads_word {n = n} {offset = offset} has) = addresses_within l (Cached (Node n offset)) has
may_name l s a (loads_status {n = n} here) = addresses_within l (Volatile n status_offset) (here, omega arith)
may_name l s a (loads_prev {n = n} here) = addresses_within l (Volatile n prev_offset) (here, omega arith)
may_name l s a (stores_status {n = n} holds here small) = (addresses_within l (Volatile n status_offset) (here, omega arith), status_outside l n here)
may_name l s a (exchanges {n = n} here) = let has : HasWordAt l n version_offset = (here, omega arith) in (addresses_within l (Cached (Node n version_offset)) has, node_outside l n version_offset has)
may_name l s a (exchanges_read {n = n} here small) = let has : HasWordAt l n version_offset = (here, omega arith) in (addresses_within l (Cached (Node n version_offset)) has, node_outside l n version_offset has)
may_name l s a (stores_word {n = n} {offset = offset} holds has positive small) = (addresses_within l (Cached (Node n offset)) has, node_outside l n offset has)
may_name l s a (drains_word {n = n} {y = y} {offset = offset} holds has small) = (names_cached l (Node n offset) has, keeps_header l (Node n offset) y has (λ k lt e. cc))
may_name l s a adds = (addresses_within l Clock tt, clock_outside l)
may_name l s a (claims_node {m = m} here) = let has : HasWordAt l m version_offset = (here, omega arith) in (addresses_within l (Cached (Node m version_offset)) has, node_outside l m version_offset has)
may_name l s a (frees_fresh {fresh = fresh} here next) =
    let has : HasWordAt l fresh.node version_offset = (here, omega arith) in (addresses_within l (Cached (Node fresh.node version_offset)) has, node_outside l fresh.node version_offset has)
may_name l s a (frees_left {left = left} here next) =
    let has : HasWordAt l left.node version_offset = (here, omega arith) in (addresses_within l (Cached (Node left.node version_offset)) has, node_outside l left.node version_offset has)
may_name l s a (frees_met {right = right} here next) =
    let has : HasWordAt l right.node version_offset = (here, omega arith) in (addresses_within l (Cached (Node right.node version_offset)) has, node_outside l right.node version_offset has)
may_name l s a (frees_right {right = right} here next) =
    let has : HasWordAt l right.node version_offset = (here, omega arith) in (addresses_within l (Cached (Node right.node version_offset)) has, node_outside l right.node version_offset has)
may_name l s a (frees {n = n} here next) = let has : HasWordAt l n version_offset = (here, omega arith) in (addresses_within l (Cached (Node n version_offset)) has, node_outside l n version_offset has)

-- the word that takes or gives back a lock has 64 bits
can_change : (l : Layout) (g : ℕ) (f : Facts) (caller index since : ℕ) (s : Stage) (a : Action) (word : ℕ) → Allowed l s a → g < GENERATION_LIMIT
    → Sure l g f caller index since s → (a ≡ Add (clock_address l) → word < 2 ^ 63) → CanChange a word
can_change l g f caller index since s a word loads_clock fits knows room = tt
can_change l g f caller index since s a word (loads_word has) fits knows room = tt
can_change l g f caller index since s a word (loads_status here) fits knows room = tt
can_change l g f caller index since s a word (loads_prev here) fits knows room = tt
can_change l g f caller index since s a word (stores_status holds here small) fits knows room = small
can_change l g f caller index since s a word (exchanges {v = v} {w = w} here) fits knows room =
    let most = lock_fits w g (own_lock v w g knows.word.known knows.word.unworn knows.word.lock) fits in omega arith
can_change l g f caller index since s a word (exchanges_read here small) fits knows room = small
can_change l g f caller index since s a word (stores_word holds has positive small) fits knows room = small
can_change l g f caller index since s a word (drains_word holds has small) fits knows room = small
can_change l g f caller index since s a word adds fits knows room = room refl
can_change l g f caller index since s a word (claims_node {v = v} {u = u} here) fits knows room =
    let most = lock_fits u g (own_lock v u g knows.1.word.known knows.1.word.unworn knows.1.word.lock) fits in omega arith
can_change l g f caller index since s a word (frees_fresh {fresh = fresh} here next) fits knows room = let most = lock_fits fresh.lock g knows.new.lock fits in omega arith
can_change l g f caller index since s a word (frees_left {left = left} here next) fits knows room = let most = lock_fits left.lock g knows.grip.lock fits in omega arith
can_change l g f caller index since s a word (frees_met {right = right} here next) fits knows room = let most = lock_fits right.lock g knows.1.grip.lock fits in omega arith
can_change l g f caller index since s a word (frees_right {right = right} here next) fits knows room = let most = lock_fits right.lock g knows.other.lock fits in omega arith
can_change l g f caller index since s a word (frees {w = w} here next) fits knows room = let most = lock_fits w g knows.lock fits in omega arith

-- the number that is told has 64 bits
pub given_fits : (a : Action) (word : ℕ) → word < 2 ^ 64 → given a word < 2 ^ 64
given_fits (Load place) word small = small
given_fits (Store place value) word small = omega arith
given_fits (Exchange place old new) word small = small
given_fits (Add place) word small = small
given_fits (Drain place value) word small = omega arith

-- the place of a node's word is that of a version only if it is one
version_alone : (l : Layout) (n offset m : ℕ) → HasWordAt l n offset → word_address l n offset ≡ version_address l m → (n ≡ m) × (offset ≡ version_offset)
version_alone l n offset m has same = same_from_place n offset m 0 (node_words l) has.1 (omega arith) (omega arith)

abbrev loaded_from : Action → ℕ
loaded_from (Load place) = place
loaded_from _ = 0

-- some number may be told by every action: that of node 0's status is 1, and each other one may be 0, a word of a node
-- among them
pub some_told : (l : Layout) (g : ℕ) (a : Action) → (x : ℕ) × Told l g a x × ((n offset : ℕ) → a ≡ Load (word_address l n offset) → x ≡ 0)
some_told l g a = ⊎_elim
    (λ (first : loaded_from a ≡ status_address l 0). (
      1,
      record {
        fits = omega arith;
        known = λ n here is. omega arith;
        first_live = λ is. refl;
        first_anchor = λ offset least most is. absurd (apart 0 offset first (ap loaded_from is));
        first_next = λ is some. absurd (apart 0 next_offset first (ap loaded_from is));
      },
      λ n offset is. absurd (apart n offset first (ap loaded_from is)),
    ))
    (λ (other : loaded_from a ≢ status_address l 0). (
      0,
      record {
        fits = omega arith;
        known = λ n here is. omega arith;
        first_live = λ is. absurd (other (ap loaded_from is));
        first_anchor = λ offset least most is. refl;
        first_next = λ is some. absurd (some refl);
      },
      λ n offset is. refl,
    ))
    (cases_eq (loaded_from a) (status_address l 0))
  where
    apart : (n offset : ℕ) → loaded_from a ≡ status_address l 0 → loaded_from a ≡ word_address l n offset → ⊥
    apart n offset status word = let place : status_address l 0 ≡ word_address l n offset = sym status ∙ word in absurd (omega arith)

-- and by it each node leads to one of the layout's
pub some_leads : (l : Layout) (g : ℕ) (s : Stage) (a : Action) → 0 < l.nodes → LeadsWithin l s a (some_told l g a).0
some_leads l g s a nodes = record {
  live = λ n v w k here is live load. let zero_told = (some_told l g a).2 n next_offset load in omega arith;
  held = λ n w h here is load. let zero_told = (some_told l g a).2 n next_offset load in omega arith;
  met = λ n w h right here is load. let zero_told = (some_told l g a).2 right.node next_offset load in omega arith;
}

-- a version word that is loaded is of no later run
told_known : (l : Layout) (g : ℕ) (ws : List ℕ) (s : Stage) (a : Action) → Allowed l s a → ((n : ℕ) → n < l.nodes → generation_of (version_in l ws n) ≤ g)
    → (n : ℕ) → a ≡ Load (version_address l n) → generation_of (got l ws a) ≤ g
told_known l g ws s a loads_clock known n is = let place : clock_address l ≡ version_address l n = ap loaded_from is in absurd (omega arith)
told_known l g ws s a (loads_word {n = m} {offset = offset} has) known n is =
    let parts = version_alone l m offset n has (ap loaded_from is) in
    let there : version_in l ws m ≡ slice_index ws (word_address l m offset) = version_in-here l ws m has.0 ∙ ap (λ (o : ℕ). slice_index ws (word_address l m o)) (sym parts.1) in
    subst (λ (x : ℕ). generation_of x ≤ g) there (known m has.0)
told_known l g ws s a (loads_status {n = m} here) known n is = let place : status_address l m ≡ version_address l n = ap loaded_from is in absurd (omega arith)
told_known l g ws s a (loads_prev {n = m} here) known n is = let place : prev_address l m ≡ version_address l n = ap loaded_from is in absurd (omega arith)
told_known l g ws s a (stores_status holds here small) known n is = absurd cc
told_known l g ws s a (exchanges here) known n is = absurd cc
told_known l g ws s a (exchanges_read here small) known n is = absurd cc
told_known l g ws s a (stores_word holds has positive small) known n is = absurd cc
told_known l g ws s a (drains_word holds has small) known n is = absurd cc
told_known l g ws s a adds known n is = absurd cc
told_known l g ws s a (claims_node here) known n is = absurd cc
told_known l g ws s a (frees_fresh here next) known n is = absurd cc
told_known l g ws s a (frees_left here next) known n is = absurd cc
told_known l g ws s a (frees_met here next) known n is = absurd cc
told_known l g ws s a (frees_right here next) known n is = absurd cc
told_known l g ws s a (frees here next) known n is = absurd cc

-- the clock is below the bound of an add
clock_room : (w : World) (s : Stage) (a : Action) → Allowed w.layout s a → slice_index w.words (clock_address w.layout) ≡ length w.history → length w.history < 2 ^ 63
    → a ≡ Add (clock_address w.layout) → slice_index w.words (action_address w.layout a) < 2 ^ 63
clock_room w s a allowed clock room is =
    subst (λ (b : Action). slice_index w.words (action_address w.layout b) < 2 ^ 63) (sym is) (omega (arith, clock))

-- a node that was LIVE leads to one of the layout's
pub told_leads : (l : Layout) (g : ℕ) (ws : List ℕ) (base : Map) (history : List Write) (caller index since : ℕ) (s : Stage) (a : Action)
    → Sure l g (facts_of l ws base history) caller index since s
    → (n v w : ℕ) (k : Sight) → n < l.nodes → s ≡ Saw n v w k → k.live ≡ true → a ≡ Load (word_address l n next_offset) → got l ws a < l.nodes
told_leads l g ws base history caller index since s a knows n v w k here at live is =
    let sure : SureSaw l g (facts_of l ws base history) n v w k = subst (Sure l g (facts_of l ws base history) caller index since) at knows in
    let has : HasWordAt l n next_offset = (here, omega arith) in
    subst (λ (b : Action). got l ws b < l.nodes) (sym is) (subst (λ (x : ℕ). x < l.nodes) (spot_in-here l ws n next_offset has (omega arith)) (sure.leads live))

-- so does a listed one
leads_within : (l : Layout) (f : Facts) → 0 < l.nodes → IsList l f → (n : ℕ) → IsListed f n → f.now n next_offset < l.nodes
leads_within l f nodes list n listed =
    let to : ℕ = f.now n next_offset in
    ⊎_elim
    (λ (last : to ≡ 0). omega arith)
    (λ (ne : to ≢ 0). ⊎_elim
    (λ (first : to ≡ 0). absurd (ne first))
    (λ among. all_member (λ k. k < l.nodes) f.list to list.within among)
    (leads_on l f list n listed ne))
    (cases_eq to 0)

-- and one that is held
pub told_held : (l : Layout) (g : ℕ) (ws : List ℕ) (base : Map) (history : List Write) (caller index since : ℕ) (s : Stage) (a : Action) → IsList l (facts_of l ws base history)
    → Sure l g (facts_of l ws base history) caller index since s → (n w : ℕ) (h : Held) → n < l.nodes → s ≡ Holds n w h → a ≡ Load (word_address l n next_offset) → got l ws a < l.nodes
told_held l g ws base history caller index since s a list knows n w h here at is =
    let f = facts_of l ws base history in
    let sure : SureHolds l g f caller index since n w h = subst (Sure l g f caller index since) at knows in
    let has : HasWordAt l n next_offset = (here, omega arith) in
    let within : f.now n next_offset < l.nodes = leads_within l f (omega arith) list n (inside_listed l f list n h.name sure.inside) in
    subst (λ (b : Action). got l ws b < l.nodes) (sym is) (subst (λ (x : ℕ). x < l.nodes) (spot_in-here l ws n next_offset has (omega arith)) within)

-- and the right one of a merge
pub told_met : (l : Layout) (g : ℕ) (ws : List ℕ) (base : Map) (history : List Write) (caller index since : ℕ) (s : Stage) (a : Action) → IsList l (facts_of l ws base history)
    → Sure l g (facts_of l ws base history) caller index since s → (n w : ℕ) (h : Held) (right : Grip) → right.node < l.nodes → s ≡ Meets n w h right → a ≡ Load (word_address l right.node next_offset)
    → got l ws a < l.nodes
told_met l g ws base history caller index since s a list knows n w h right here at is =
    let f = facts_of l ws base history in
    let sure : SureHolds l g f caller index since n w h × SureMeets l g f n h right = subst (Sure l g f caller index since) at knows in
    let has : HasWordAt l right.node next_offset = (here, omega arith) in
    let listed : IsListed f right.node =
    subst (IsListed f) sure.1.leads (leads_on l f list n (inside_listed l f list n h.name sure.0.inside) (λ z. sure.1.nonzero (sym sure.1.leads ∙ z))) in
    let within : f.now right.node next_offset < l.nodes = leads_within l f (omega arith) list right.node listed in
    subst (λ (b : Action). got l ws b < l.nodes) (sym is) (subst (λ (x : ℕ). x < l.nodes) (spot_in-here l ws right.node next_offset has (omega arith)) within)

-- an anchor of zero has three zero words
anchor_zero : (s : Spot) → anchor_in s ≡ 0 → (offset : ℕ) → 3 ≤ offset → offset ≤ 5 → s offset ≡ 0
unfolding anchor_in
anchor_zero s zero offset least most = ⊎_elim
    (λ (is : offset ≡ anchor_offset). ap s is ∙ omega (arith, zero))
    (λ past. ⊎_elim
    (λ (is : offset ≡ anchor_offset + 1). ap s is ∙ omega (arith, zero))
    (λ last. let is : offset ≡ anchor_offset + 2 = omega (arith, past, last) in ap s is ∙ omega (arith, zero))
    (cases_eq offset (anchor_offset + 1)))
    (cases_eq offset anchor_offset)

-- node 0 is listed
module _ (l : Layout) (g : ℕ) (ws : List ℕ) (base : Map) (history : List Write) (a : Action) (some : 0 < l.nodes) (list : IsList l (facts_of l ws base history)) where
  abbrev f : Facts
  f = facts_of l ws base history

  first_live : AreLive l g f → a ≡ Load (status_address l 0) → got l ws a ≡ live_status
  first_live live is = subst (λ (b : Action). got l ws b ≡ live_status) (sym is) (sym (status_in-here l ws 0 some) ∙ live.live 0 (inl refl))

  first_anchor : (offset : ℕ) → 3 ≤ offset → offset ≤ 5 → a ≡ Load (word_address l 0 offset) → got l ws a ≡ 0
  first_anchor offset least most is =
      let has : HasWordAt l 0 offset = (some, omega arith) in
      subst (λ (b : Action). got l ws b ≡ 0) (sym is) (sym (spot_in-here l ws 0 offset has (omega arith)) ∙ anchor_zero (f.now 0) list.lowest offset least most)

  first_next : a ≡ Load (word_address l 0 next_offset) → got l ws a ≢ 0 → got l ws a < l.nodes
  first_next is leads =
      let has : HasWordAt l 0 next_offset = (some, omega arith) in
      let loads : got l ws a ≡ f.now 0 next_offset = ap (got l ws) is ∙ sym (spot_in-here l ws 0 next_offset has (omega arith)) in
      subst (λ (x : ℕ). x < l.nodes) (sym loads) (leads_within l f some list 0 (inl refl))

pub action_law : AllowedCanAct
action_law w i p a lawful there allowed room = record {
  can = (
    may_name w.layout p.stage a allowed,
    can_change w.layout w.generation (facts w) p.caller p.index p.since p.stage a (slice_index w.words (action_address w.layout a)) allowed lawful.run.fits (lawful.sure i p there)
        (clock_room w p.stage a allowed lawful.clock room),
  );
  told = record {
    fits = given_fits a (slice_index w.words (action_address w.layout a)) (lawful.row.fits (action_address w.layout a));
    known = λ n here is. told_known w.layout w.generation w.words p.stage a allowed lawful.versions n is;
    first_live = first_live w.layout w.generation w.words w.base w.history a lawful.row.layout.nodes.0 lawful.list lawful.live;
    first_anchor = first_anchor w.layout w.generation w.words w.base w.history a lawful.row.layout.nodes.0 lawful.list;
    first_next = first_next w.layout w.generation w.words w.base w.history a lawful.row.layout.nodes.0 lawful.list;
  };
  leads = record {
    live = told_leads w.layout w.generation w.words w.base w.history p.caller p.index p.since p.stage a (lawful.sure i p there);
    held = told_held w.layout w.generation w.words w.base w.history p.caller p.index p.since p.stage a lawful.list (lawful.sure i p there);
    met = told_met w.layout w.generation w.words w.base w.history p.caller p.index p.since p.stage a lawful.list (lawful.sure i p there);
  };
}
