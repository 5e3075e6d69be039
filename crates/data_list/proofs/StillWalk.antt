-- A walk that nobody disturbs comes to the target of its key.
use Rattle.std.proofs.Common.{◌≡◌, ◌≢◌, ℕ, zero, suc, ◌+◌, ◌*◌, ◌<◌, ◌≤◌, ◌==◌, true, false, cond, ltb, Some, None, inl, inr, ⊎_elim, refl, sym, subst, ap, ◌∙◌, arith, Option, List, [], ◌∷◌}
use Rattle.std.proofs.lemmas.Bool.{eqb-true, eqb-false, ne_eqb, ltb-true, ltb-false, lt-ltb}
use Rattle.pm_words.specs.Codes.{live_status, gone_status}
use Rattle.pm_words.specs.declared.layout.Layout.{Layout}
use Rattle.pm_words.specs.declared.machine.Turn.{Turn}
use Rattle.pm_words.specs.declared.machine.Turn.TheVariants.{Go, Done}
use Rattle.pm_words.specs.declared.again.Again.TheVariants.{Locked, Hops}
use Rattle.pm_words.specs.Offsets.{next_offset, anchor_offset}
use Rattle.data_node.specs.Lists.{anchor_in, target_from, IsIn, Rise, number_of}
use Rattle.data_node.proofs.ListLemmas.{between_target, chain_closed}
use Rattle.data_list.specs.declared.target.Next.{Next}
use Rattle.data_list.specs.declared.target.Target.{Target}
use Rattle.data_list.specs.declared.target.Walked.{Walked}
use Rattle.data_list.specs.declared.target.Walked.TheVariants as walked
use Rattle.data_list.specs.declared.walk.Walk.{Walk}
use Rattle.data_list.specs.declared.walk.WalkAt.{WalkAt}
use Rattle.data_list.specs.declared.walk.WalkAt.TheVariants as at
use Rattle.data_list.specs.Walks.{walk_from, landing, loads_at, hops_to, target, walk_at_turned, walk_turned, walk_at_left}
use Rattle.data_list.specs.Still.{Nodes, IsQuietList, Comes, loaded, HasSeen, SawLive, IsOnWay, StaysOnWay, BeginsOnWay, WalksComeThere, Answers, is_done, turns, WalksAnswer}
use Rattle.data_list.proofs.WalkLaw.{anchor_is}
use Rattle.version_lock.proofs.WordTests.{free_is}
use Rattle.data_list.proofs.Comings.{leads_to, none_of, one_of, else_leads, gone_leads, back_leads, last_leads, ends_leads, on_leads, unroll, one_come, comes_listed, listed_within, comes_within, comes_few}

pub begins_on_way : BeginsOnWay
begins_on_way l g f hops walk still some none at comes = record {
  left = hops;
  comes = comes;
  all = let zero : walk.hops ≡ 0 = none in omega arith;
  few = comes_few l g f (number_of walk.key) still some walk.node hops comes;
  seen = subst (HasSeen f (number_of walk.key) walk.node) (sym at) tt;
}

-- a walk that is nearer to the target than the one before
record IsNearer (f : Nodes) (hops : ℕ) (before : Walk) (far : ℕ) (next : Walk) : Type 0 where
  quiet : IsQuietList next.layout next.generation f
  way : IsOnWay next.layout f hops next
  less : 10 * way.left + walk_at_left next.at < far
  layout : next.layout ≡ before.layout
  key : next.key ≡ before.key

module _ (f : Nodes) (hops : ℕ) (walk : Walk) (still : IsQuietList walk.layout walk.generation f) (way : IsOnWay walk.layout f hops walk) where
  abbrev l : Layout
  l = walk.layout

  abbrev n : ℕ
  n = walk.node

  abbrev key : ℕ
  key = number_of walk.key

  -- after a load it is nearer to the target, if it isn't there
  abbrev Nears : WalkAt → Turn Walk Walked → Type 0
  Nears load (Go next) = IsNearer f hops walk (10 * way.left + walk_at_left load) next
  Nears load (Done answer) = StaysOnWay l f hops walk.key (Done answer)

  some : 0 < l.nodes
  some = let few = way.few in omega arith

  here : n < l.nodes
  here = comes_within l walk.generation f key still some n way.left way.comes

  -- it goes on at its node
  on : (load at : WalkAt) → walk_at_left at < walk_at_left load → HasSeen f key n at → Nears load (loads_at walk at)
  on load at less seen = record {
    quiet = still;
    way = record { left = way.left; comes = way.comes; all = way.all; few = way.few; seen = seen };
    less = omega arith;
    layout = refl;
    key = refl;
  }

  -- it hops where the words lead
  hop : (load : WalkAt) (m : ℕ) → 0 < walk_at_left load → leads_to f key n ≡ Some m → Nears load (hops_to walk m)
  hop load m last leads = hop_at way.left way.comes way.all refl
    where
      hop_at : (left : ℕ) → Comes l f key n left → walk.hops + left ≡ hops → way.left ≡ left → Nears load (hops_to walk m)
      hop_at zero comes all was = absurd (none_of _ _ (unroll l walk.generation f key still n zero comes) leads)
      hop_at (suc left) comes all was =
          let next = unroll l walk.generation f key still n (suc left) comes in
          let rest : Comes l f key m left = subst (λ k. Comes l f key k left) (one_of (leads_to f key n) next.0 m next.1 leads) next.2 in
          let few = way.few in
          let more : ltb (walk.hops + 1) (2 * l.nodes) ≡ true = lt-ltb _ _ (omega arith) in
          let inside : m < l.nodes = comes_within l walk.generation f key still some m left rest in
          let other : m ≢ n = λ e. let same : left ≡ suc left = one_come l walk.generation f key still n left (suc left) (subst (λ k. Comes l f key k left) e rest) comes in absurd (omega arith) in
          let is_m : landing walk m ≡ m = ap (λ b. cond b 0 (cond (ltb m l.nodes) m 0)) (ne_eqb m n other) ∙ ap (λ b. cond b m 0) (lt-ltb m l.nodes inside) in
          subst (λ b. Nears load (cond b (Go (record walk { node = landing walk m; hops = walk.hops + 1; at = at.Version })) (Done (walked.Again (Hops (walk.hops + 1)))))) (sym more)
          (subst (λ k. Nears load (Go (record walk { node = k; hops = walk.hops + 1; at = at.Version }))) (sym is_m)
          (record {
            quiet = still;
            way = record { left = left; comes = rest; all = omega arith; few = few; seen = tt };
            less = omega arith;
            layout = refl;
            key = refl;
          }))

  -- the node is the target
  ends : (load : WalkAt) (version : ℕ) (low : List ℕ) (leads : Option Next) → SawLive f n version → n ≡ target_from 0 f.list key → leads_to f key n ≡ None → Nears load (target walk version low leads)
  ends load version low leads seen is none = (is, ends_at way.left way.comes way.all, seen.word)
    where
      ends_at : (left : ℕ) → Comes l f key n left → walk.hops + left ≡ hops → walk.hops ≡ hops
      ends_at zero comes all = omega arith
      ends_at (suc left) comes all = absurd (none_of _ _ none (unroll l walk.generation f key still n (suc left) comes).1)

  listed : f.status n ≡ live_status → IsIn f.list n
  listed live = comes_listed l walk.generation f key still n way.left way.comes live

  is_target : f.status n ≡ live_status → anchor_in (f.now n) ≤ key → (f.now n next_offset ≢ 0 → key < anchor_in (f.now (f.now n next_offset))) → n ≡ target_from 0 f.list key
  is_target live above under =
      sym (between_target f.now 0 f.list still.chain (subst (λ a. Rise a f.list) (sym still.lowest) still.rise) n key (listed live) (record { low = above; high = under }))

  goes : (load : WalkAt) → HasSeen f key n load → Nears load (walk_at_turned walk load (loaded f n load))
  goes at.Version seen =
      subst (λ b. Nears at.Version (cond b (loads_at walk (at.Status (f.version n))) (Done (walked.Again (Locked n (f.version n)))))) (sym (free_is (f.version n) walk.generation (still.free n here)))
      (on at.Version (at.Status (f.version n)) (omega arith) refl)
  goes (at.Status version) seen =
      elim (f.status n == live_status) as (λ b. (f.status n == live_status) ≡ b → Nears (at.Status version) (cond b (loads_at walk (at.First version)) (cond (f.status n == gone_status) (loads_at walk at.Prev) (hops_to walk 0)))) [
        | true ↦ λ live. on (at.Status version) (at.First version) (omega arith) (record { word = seen; live = eqb-true _ _ live })
        | false ↦ λ other. elim (f.status n == gone_status) as (λ b. (f.status n == gone_status) ≡ b → Nears (at.Status version) (cond b (loads_at walk at.Prev) (hops_to walk 0))) [
          | true ↦ λ gone. on (at.Status version) at.Prev (omega arith) (inl (eqb-true _ _ gone))
          | false ↦ λ left. hop (at.Status version) 0 (omega arith) (else_leads f key n other left)
        ] refl
      ] refl
  goes (at.First version) seen = on (at.First version) (at.Second version (f.now n anchor_offset)) (omega arith) (seen, refl)
  goes (at.Second version first) seen = on (at.Second version first) (at.Third version first (f.now n (anchor_offset + 1))) (omega arith) (seen.0, seen.1, refl)
  goes (at.Third version first second) seen =
      let low = first ∷ second ∷ f.now n (anchor_offset + 2) ∷ [] in
      let anchor : anchor_in (f.now n) ≡ number_of low = anchor_is (f.now n) low (sym seen.1) (sym seen.2) refl in
      elim (ltb key (number_of low)) as (λ b. ltb key (number_of low) ≡ b → Nears (at.Third version first second) (cond b (loads_at walk at.Prev) (loads_at walk (at.Next version low)))) [
        | true ↦ λ under. on (at.Third version first second) at.Prev (omega arith) (inr (seen.0.live, (let lt = ltb-true _ _ under in omega arith)))
        | false ↦ λ above. on (at.Third version first second) (at.Next version low) (omega arith) (seen.0, (let le = ltb-false _ _ above in omega arith))
      ] refl
  goes (at.Next version low) seen =
      let next = f.now n next_offset in
      elim (next == 0) as (λ b. (next == 0) ≡ b → Nears (at.Next version low) (cond b (target walk version low None) (cond (ltb next l.nodes) (loads_at walk (at.HighFirst version low next)) (hops_to walk 0)))) [
        | true ↦ λ none.
            let last : f.now n next_offset ≡ 0 = eqb-true _ _ none in
            ends (at.Next version low) version low None seen.0 (is_target seen.0.live seen.1 (λ ne. absurd (ne last))) (last_leads f key n seen.0.live seen.1 last)
        | false ↦ λ more.
            let within : next < l.nodes = listed_within l walk.generation f key still some next (inr (chain_closed f.now 0 f.list still.chain n (listed seen.0.live) (eqb-false _ _ more))) in
            subst (λ b. Nears (at.Next version low) (cond b (loads_at walk (at.HighFirst version low next)) (hops_to walk 0))) (sym (lt-ltb next l.nodes within))
            (on (at.Next version low) (at.HighFirst version low next) (omega arith) (record { here = seen.0; above = seen.1; leads = refl; some = eqb-false _ _ more }))
      ] refl
  goes (at.HighFirst version low next) seen = on (at.HighFirst version low next) (at.HighSecond version low next (f.now next anchor_offset)) (omega arith) (seen, refl)
  goes (at.HighSecond version low next first) seen = on (at.HighSecond version low next first) (at.HighThird version low next first (f.now next (anchor_offset + 1))) (omega arith) (seen.0, seen.1, refl)
  goes (at.HighThird version low next first second) seen =
      let high = first ∷ second ∷ f.now next (anchor_offset + 2) ∷ [] in
      let anchor : anchor_in (f.now next) ≡ number_of high = anchor_is (f.now next) high (sym seen.1) (sym seen.2) refl in
      let beyond : anchor_in (f.now (f.now n next_offset)) ≡ number_of high = ap (λ k. anchor_in (f.now k)) (sym seen.0.leads) ∙ anchor in
      let more : f.now n next_offset ≢ 0 = λ z. seen.0.some (seen.0.leads ∙ z) in
      let live = seen.0.here.live in
      elim (ltb key (number_of high)) as (λ b. ltb key (number_of high) ≡ b → Nears (at.HighThird version low next first second) (cond b (target walk version low (Some (record { node = next; anchor = high }))) (hops_to walk next))) [
        | true ↦ λ under.
            let past : key < anchor_in (f.now (f.now n next_offset)) = let lt = ltb-true _ _ under in omega arith in
            ends (at.HighThird version low next first second) version low (Some (record { node = next; anchor = high })) seen.0.here (is_target live seen.0.above (λ ne. past)) (ends_leads f key n live seen.0.above more past)
        | false ↦ λ over.
            let up : anchor_in (f.now (f.now n next_offset)) ≤ key = let le = ltb-false _ _ over in omega arith in
            hop (at.HighThird version low next first second) next (omega arith) (on_leads f key n live seen.0.above more up ∙ ap (λ k. Some k) (sym seen.0.leads))
      ] refl
  goes at.Prev seen = ⊎_elim
      (λ gone. hop at.Prev (f.prev n) (omega arith) (gone_leads f key n gone))
      (λ past. hop at.Prev (f.prev n) (omega arith) (back_leads f key n past.0 past.1))
      seen

  stays : (turn : Turn Walk Walked) → Nears walk.at turn → StaysOnWay l f hops walk.key turn
  stays (Go next) near = subst (λ (k : Layout). IsOnWay k f hops next) near.layout near.way
  stays (Done answer) near = near

pub walks_come_there : WalksComeThere
walks_come_there l g f hops walk still layout generation way =
    subst (λ (k : Layout). StaysOnWay k f hops walk.key (walk_turned walk (loaded f walk.node walk.at))) layout
    (stays f hops walk quiet on (walk_turned walk (loaded f walk.node walk.at)) (goes f hops walk quiet on walk.at on.seen))
  where
    quiet : IsQuietList walk.layout walk.generation f
    quiet = subst (λ (n : ℕ). IsQuietList walk.layout n f) (sym generation) (subst (λ (k : Layout). IsQuietList k g f) (sym layout) still)

    on : IsOnWay walk.layout f hops walk
    on = subst (λ (k : Layout). IsOnWay k f hops walk) (sym layout) way

-- it ends, since each turn brings it nearer
module _ (f : Nodes) (hops : ℕ) where
  abbrev Told : Walk → Type 0
  Told walk = (target : Target) × Answers f walk (walked.Target target) × (target.node ≡ target_from 0 f.list (number_of walk.key)) × (target.hops ≡ hops)

  -- such a walk answers, if it makes fewer loads than this
  abbrev Answered : ℕ → Type 0
  Answered fuel = (walk : Walk) → IsQuietList walk.layout walk.generation f → (way : IsOnWay walk.layout f hops walk) → 10 * way.left + walk_at_left walk.at < fuel → Told walk

  after : (fuel : ℕ) → Answered fuel → (walk : Walk) (still : IsQuietList walk.layout walk.generation f) (way : IsOnWay walk.layout f hops walk) → 10 * way.left + walk_at_left walk.at < suc fuel
      → (turn : Turn Walk Walked) → walk_turned walk (loaded f walk.node walk.at) ≡ turn → Nears f hops walk still way walk.at turn → Told walk
  after fuel rest walk still way less (Go next) is near =
      let nearer = near.less in
      let told : Told next = rest next near.quiet near.way (omega arith) in
      (told.0, turns is told.1, subst (λ (k : List ℕ). told.0.node ≡ target_from 0 f.list (number_of k)) near.key told.2, told.3)
  after fuel rest walk still way less (Done (walked.Target target)) is near = (target, is_done is, near.0, near.1)
  after fuel rest walk still way less (Done (walked.Again why)) is near = absurd near

  answered : (fuel : ℕ) → Answered fuel
  answered zero walk still way less = absurd (omega arith)
  answered (suc fuel) walk still way less =
      after fuel (answered fuel) walk still way less (walk_turned walk (loaded f walk.node walk.at)) refl (goes f hops walk still way walk.at way.seen)

pub walks_answer : WalksAnswer
walks_answer l g f hint hops key still some comes =
    let way = begins_on_way l g f hops (walk_from l g hint key) still some refl refl comes in
    answered f hops (suc (10 * way.left + 10)) (walk_from l g hint key) still way (omega arith)
