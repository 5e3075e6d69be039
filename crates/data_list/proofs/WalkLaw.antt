-- Each turn of a walk is a look, and a watch.
use Rattle.std.proofs.Common.{◌≡◌, ◌≢◌, ℕ, zero, suc, ◌+◌, ◌*◌, ◌<◌, ◌≤◌, ◌==◌, true, false, cond, ltb, [], ◌∷◌, slice_index, Option, Some, None, refl, sym, subst, ap, arith, List}
use Rattle.std.proofs.lemmas.Bool.{eqb-true, eqb-false, ltb-true, ltb-false}
use Rattle.pm_words.specs.Codes.{live_status, gone_status}
use Rattle.pm_words.specs.declared.layout.Layout.{Layout}
use Rattle.pm_words.specs.declared.action.Action.{Action}
use Rattle.pm_words.specs.declared.action.Action.TheVariants.{Load}
use Rattle.pm_words.specs.declared.again.Again.TheVariants.{Locked, Hops}
use Rattle.pm_words.specs.declared.machine.Turn.{Turn}
use Rattle.pm_words.specs.declared.machine.Turn.TheVariants.{Go, Done}
use Rattle.pm_words.specs.Offsets.{next_offset, anchor_offset}
use Rattle.version_lock.specs.Versions.{generation_of, kept_count, locked_word, is_free_word, is_worn_word}
use Rattle.data_node.specs.Spots.{Spot}
use Rattle.data_node.specs.Lists.{three_words, anchor_in, IsBetween, number_of}
use Rattle.call_stages.specs.declared.once.Once.TheVariants as once
use Rattle.call_stages.specs.declared.once.Once.{Once}
use Rattle.call_stages.specs.declared.once.Placed.{Placed}
use Rattle.call_stages.specs.Stages.{Sight, Sees, Tells, no_sight, Stage, Idle, Saw, Wears, Reads, IsLoose}
use Rattle.call_stages.specs.Watches.{Watching, Nothing, Watches, Watch}
use Rattle.call_stages.specs.Watches as watch
use Rattle.call_stages.specs.Kinds.{HasWordAt, word_address, version_address, status_address, prev_address, Told, GivesUp, Look, turns_back, wears, roams, roams_status, is_worn, sees, finds_live, watches, watches_next, turns_away, steps_back, wanders}
use Rattle.data_list.specs.declared.target.Next.{Next}
use Rattle.data_list.specs.declared.target.Sighting.{Sighting}
use Rattle.data_list.specs.declared.target.Walked.{Walked}
use Rattle.data_list.specs.declared.target.Walked.TheVariants as walked
use Rattle.data_list.specs.declared.walk.Walk.{Walk}
use Rattle.data_list.specs.declared.walk.WalkAt.{WalkAt}
use Rattle.data_list.specs.declared.walk.WalkAt.TheVariants as at
use Rattle.data_list.specs.Walks.{loads_at, landing, hops_to, saw_version, saw_status, saw_anchor, target, saw_next, saw_high, high_of, walk_at_asks, walk_at_turned, walk_asks, walk_turned, IsAbove, LeadsOn, WasFree, IsWalkAt, KnowsFirst, IsWalk}
use Rattle.data_list.specs.WalkStages.{live_sight, anchor_seen, leading_sight, walk_at_watching, walk_watching, view_stage, saw_stage, watching_stage, walk_at_stage, sight_in}
use Rattle.version_lock.proofs.WordTests.{free_word, taken_word, worn_word, fresh_word}
use Rattle.data_list.proofs.KeyLemmas.{name_kept_so}
use Rattle.data_list.specs.Laws.{EndsAt, IsTarget, Walks, WalksAreLooks, WalkWatches, WalksAreWatches, WalkViews, WalksAreViews}
use Rattle.call_stages.specs.Kinds.{reads_on, views, views_live, views_word, views_next}

watching_loose : (g : ℕ) (watching : Watching) → IsLoose (watching_stage g watching)
watching_loose g Nothing = tt
watching_loose g (Watches n version sight) = elim (is_worn_word version g) as (λ b. IsLoose (cond b (Wears n version) (Saw n version (locked_word g (kept_count version g)) sight))) [
  | true ↦ tt
  | false ↦ tt
]

pub view_loose : (w : Watching) → IsLoose (view_stage w)
view_loose Nothing = tt
view_loose (Watches n version sight) = tt

-- a walk holds no node
pub walk_loose : (g n : ℕ) (at : WalkAt) → IsLoose (walk_at_stage g n at)
walk_loose g n at = watching_loose g (walk_at_watching n at)

-- the words that make an anchor
pub anchor_is : (s : Spot) (low : List ℕ) → s anchor_offset ≡ slice_index low 0 → s (anchor_offset + 1) ≡ slice_index low 1 → s (anchor_offset + 2) ≡ slice_index low 2 → anchor_in s ≡ number_of low
unfolding anchor_in
anchor_is s low a b c = λ k. three_words (a k) (b k) (c k)

-- what is seen of the target puts the key there
last_between : (key low high : List ℕ) (s t : Spot) → IsAbove key low → Sees (live_sight ((next_offset, 0) ∷ anchor_seen low)) s t → IsBetween s t (number_of key)
last_between key low high s t above see =
    let a = anchor_is s low see.seen.1.0 see.seen.1.1.0 see.seen.1.1.1.0 in
    record { low = omega arith; high = λ leads. absurd (leads see.seen.0) }

inner_between : (key low high : List ℕ) (next : ℕ) (s t : Spot) → next ≢ 0 → IsAbove key low → number_of key < number_of high
    → Sees (leading_sight low next (anchor_seen high)) s t → IsBetween s t (number_of key)
inner_between key low high next s t some above under see =
    let a = anchor_is s low see.seen.1.0 see.seen.1.1.0 see.seen.1.1.1.0 in
    let beyond = see.beyond some in
    let b = anchor_is t high beyond.0.2 beyond.1.0.2 beyond.1.1.0.2 in
    record { low = omega arith; high = λ leads. omega arith }

pub not_same : (a b : ℕ) → a ≢ b → (a == b) ≡ false
not_same a b other = elim (a == b) as (λ c. (a == b) ≡ c → c ≡ false) [ true ↦ λ is. absurd (other (eqb-true a b is)) | false ↦ λ is. refl ] refl

-- what it saw of its target
abbrev sighting : ℕ → List ℕ → Option Next → Sighting
sighting version low next = record { version = version; low = low; next = next }

-- these are the words of the anchor
low_words : (s : Spot) (low : List ℕ) → Tells (anchor_seen low) s → (i : ℕ) → i < 3 → s (anchor_offset + i) ≡ slice_index low i
low_words s low told zero small = told.0
low_words s low told (suc zero) small = told.1.0
low_words s low told (suc (suc zero)) small = told.1.1.0
low_words s low told (suc (suc (suc i))) small = absurd (omega arith)

-- What is relied on without a lock, a call relies on too, if a lock can be taken of the node.
module _ (l : Layout) (g : ℕ) where
  abbrev Looks : Watching → Action → ℕ → Watching → Type 0
  Looks w action x Nothing = Unit {0}
  Looks w action x (Watches n version k) = Look l g (watching_stage g w) action x (saw_stage g n version k) None

  looks : {w next : Watching} {action : Action} {x : ℕ} → Watch l g w action x next → Looks w action x next
  looks (watch.begins {w} {n} {x} here free) =
      elim (is_worn_word x g) as (λ b. is_worn_word x g ≡ b → Look l g (watching_stage g w) (Load (version_address l n)) x (cond b (Wears n x) (Saw n x (locked_word g (kept_count x g)) no_sight)) None) [
        | true ↦ λ worn. wears (watching_loose g w) here free (worn_word x g worn)
        | false ↦ λ fresh. sees (watching_loose g w) here free (fresh_word x g fresh) refl
      ] refl
  looks (watch.finds_live {n} {v} {x} {k} here live) =
      elim (is_worn_word v g) as (λ b. Look l g (cond b (Wears n v) (Saw n v (locked_word g (kept_count v g)) k)) (Load (status_address l n)) x
      (cond b (Wears n v) (Saw n v (locked_word g (kept_count v g)) (record k { live = true }))) None) [
        | true ↦ roams_status here
        | false ↦ finds_live here live
      ]
  looks (watch.watches {n} {v} {x} {offset} {k} {k'} has positive live next learnt) =
      elim (is_worn_word v g) as (λ b. Look l g (cond b (Wears n v) (Saw n v (locked_word g (kept_count v g)) k)) (Load (word_address l n offset)) x
      (cond b (Wears n v) (Saw n v (locked_word g (kept_count v g)) k')) None) [
        | true ↦ roams has
        | false ↦ watches has positive live next learnt
      ]
  looks (watch.watches_next {n} {v} {m} {x} {offset} {k} {k'} has least most some live live' next leads learnt) =
      elim (is_worn_word v g) as (λ b. Look l g (cond b (Wears n v) (Saw n v (locked_word g (kept_count v g)) k)) (Load (word_address l m offset)) x
      (cond b (Wears n v) (Saw n v (locked_word g (kept_count v g)) k')) None) [
        | true ↦ roams has
        | false ↦ watches_next has least most some live live' next leads learnt
      ]
  looks watch.lets_go = tt

  -- and so does a call that takes no lock, of any node
  abbrev Views : Watching → Action → ℕ → Watching → Type 0
  Views w action x Nothing = Unit {0}
  Views w action x (Watches n version k) = Look l g (view_stage w) action x (Reads n version k None) None

  viewed : {w next : Watching} {action : Action} {x : ℕ} → Watch l g w action x next → Views w action x next
  viewed (watch.begins {w} here free) = reads_on (views (view_loose w) here free)
  viewed (watch.finds_live here live) = reads_on (views_live here live)
  viewed (watch.watches has positive live next learnt) = reads_on (views_word has positive live next learnt)
  viewed (watch.watches_next has least most some live live' next leads learnt) = reads_on (views_next has least most some live live' next leads learnt)
  viewed watch.lets_go = tt

  -- the last load
  ends : (n m offset x : ℕ) (k : Sight) (seen : Sighting) → HasWordAt l m offset → Watch l g (Watches n seen.version k) (Load (word_address l m offset)) x (Watches n seen.version (sight_in seen))
      → EndsAt l g (saw_stage g n seen.version k) (Load (word_address l m offset)) x n seen (is_worn_word seen.version g)
  ends n m offset x k seen has step =
      elim (is_worn_word seen.version g) as (λ b. Look l g (cond b (Wears n seen.version) (Saw n seen.version (locked_word g (kept_count seen.version g)) k)) (Load (word_address l m offset)) x
      (cond b (Wears n seen.version) (Saw n seen.version (locked_word g (kept_count seen.version g)) (sight_in seen))) None
      → EndsAt l g (cond b (Wears n seen.version) (Saw n seen.version (locked_word g (kept_count seen.version g)) k)) (Load (word_address l m offset)) x n seen b) [
        | true ↦ λ look. is_worn has
        | false ↦ λ look. look
      ] (looks step)

module _ (walk : Walk) (sound : IsWalk walk) where
  abbrev l : Layout
  l = walk.layout

  abbrev g : ℕ
  g = walk.generation

  abbrev n : ℕ
  n = walk.node

  -- a turn is a look for a call, and a watch for one that takes no lock
  abbrev Leads : Watching → Action → ℕ → Turn Walk Walked → Type 0
  Leads w action x turn = Walks l g walk.key (watching_stage g w) action x turn × WalkWatches l g walk.key w action x turn × WalkViews l g (view_stage w) action x turn

  -- it may give up by this load, or go on with nothing that it relies on
  abbrev MayLetGo : Action → ℕ → Type 0
  MayLetGo action x = (s : Stage) → IsLoose s → (r : Option (Once Placed)) → GivesUp r → Look l g s action x Idle r

  has : (offset : ℕ) → offset < 16 → HasWordAt l n offset
  has offset small = (sound.node, omega arith)

  on : (w : Watching) (action : Action) (x : ℕ) (at : WalkAt) → Look l g (watching_stage g w) action x (walk_at_stage g n at) None → Watch l g w action x (walk_at_watching n at)
      → Look l g (view_stage w) action x (view_stage (walk_at_watching n at)) None → IsWalkAt l g walk.key at → KnowsFirst n at → Leads w action x (loads_at walk at)
  on w action x at look step seen keeps first = ((look, record { layout = sound.layout; node = sound.node; hops = sound.hops; here = keeps; first = first }, refl, refl, refl), step, seen)

  -- and relies on this sight of its node
  sees_on : (w : Watching) (action : Action) (x version : ℕ) (k : Sight) (at : WalkAt) → Watch l g w action x (Watches n version k) → walk_at_watching n at ≡ Watches n version k
      → IsWalkAt l g walk.key at → KnowsFirst n at → Leads w action x (loads_at walk at)
  sees_on w action x version k at step is keeps first =
      on w action x at (subst (λ after. Look l g (watching_stage g w) action x (watching_stage g after) None) (sym is) (looks l g step)) (subst (λ after. Watch l g w action x after) (sym is) step)
      (subst (λ after. Look l g (view_stage w) action x (view_stage after) None) (sym is) (viewed l g step)) keeps first

  -- a hop by a load after which nothing is relied on, or that ends the walk
  hop : (w : Watching) (action : Action) (x m : ℕ) → MayLetGo action x → Leads w action x (hops_to walk m)
  hop w action x m may =
      elim (ltb (walk.hops + 1) (2 * l.nodes)) as (λ b. ltb (walk.hops + 1) (2 * l.nodes) ≡ b → Leads w action x
      (cond b (Go (record walk { node = landing walk m; hops = walk.hops + 1; at = at.Version })) (Done (walked.Again (Hops (walk.hops + 1)))))) [
        | true ↦ λ more. ((may (watching_stage g w) (watching_loose g w) None tt, record { layout = sound.layout; node = inside; hops = ltb-true _ _ more; here = tt; first = tt }, refl, refl, refl), watch.lets_go, may (view_stage w) (view_loose w) None tt)
        | false ↦ λ last. (may (watching_stage g w) (watching_loose g w) (Some (once.Again (Hops (walk.hops + 1)))) tt, tt, may (view_stage w) (view_loose w) (Some (once.Again (Hops (walk.hops + 1)))) tt)
      ] refl
    where
      some : 0 < l.nodes
      some = let here : n < l.nodes = sound.node in omega arith

      inside : landing walk m < l.nodes
      inside = elim (m == n) as (λ b. cond b 0 (cond (ltb m l.nodes) m 0) < l.nodes) [
        | true ↦ some
        | false ↦ elim (ltb m l.nodes) as (λ b. ltb m l.nodes ≡ b → cond b m 0 < l.nodes) [
          | true ↦ λ is. ltb-true _ _ is
          | false ↦ λ is. some
        ] refl
      ]

  at_version : (x : ℕ) → generation_of x ≤ g → Leads Nothing (Load (version_address l n)) x (saw_version walk x)
  at_version x known =
      elim (is_free_word x g) as (λ b. is_free_word x g ≡ b → Leads Nothing (Load (version_address l n)) x (cond b (loads_at walk (at.Status x)) (Done (walked.Again (Locked n x))))) [
        | true ↦ λ free. sees_on Nothing (Load (version_address l n)) x x no_sight (at.Status x) (watch.begins sound.node (free_word x g free)) refl (record { known = known; free = free_word x g free }) tt
        | false ↦ λ taken. (turns_back tt sound.node (taken_word x g taken), tt, turns_back tt sound.node (taken_word x g taken))
      ] refl

  at_status : (version x : ℕ) → WasFree g version → (n ≡ 0 → x ≡ live_status) → Leads (Watches n version no_sight) (Load (status_address l n)) x (saw_status walk version x)
  at_status version x free lit =
      let w : Watching = Watches n version no_sight in
      let may : MayLetGo (Load (status_address l n)) x = λ s loose r up. turns_away loose sound.node up in
      elim (x == live_status) as (λ b. (x == live_status) ≡ b → Leads w (Load (status_address l n)) x
      (cond b (loads_at walk (at.First version)) (cond (x == gone_status) (loads_at walk at.Prev) (hops_to walk 0)))) [
        | true ↦ λ live. sees_on w (Load (status_address l n)) x version (live_sight []) (at.First version) (watch.finds_live sound.node (eqb-true _ _ live)) refl free tt
        | false ↦ λ other. elim (x == gone_status) as (λ b. Leads w (Load (status_address l n)) x (cond b (loads_at walk at.Prev) (hops_to walk 0))) [
          | true ↦ on w (Load (status_address l n)) x at.Prev (may (watching_stage g w) (watching_loose g w) None tt) watch.lets_go (may (view_stage w) (view_loose w) None tt) tt (λ zero. eqb-false _ _ other (lit zero))
          | false ↦ hop w (Load (status_address l n)) x 0 may
        ]
      ] refl

  -- it ends at its node, of whose anchor it saw the words
  ends_here : (w : Watching) (action : Action) (x version : ℕ) (low : List ℕ) (next : Option Next)
      → EndsAt l g (watching_stage g w) action x n (sighting version low next) (is_worn_word version g) → Watch l g w action x (Watches n version (sight_in (sighting version low next)))
      → ((s t : Spot) → Sees (sight_in (sighting version low next)) s t → Tells (anchor_seen low) s)
      → IsTarget l g walk.key (record { node = n; version = version; low = low; high = high_of next; hops = walk.hops; next = next }) → Leads w action x (target walk version low next)
  ends_here w action x version low next look step anchor is = (
    (look, is),
    record {
      here = is.here;
      free = is.seen.free.free;
      watch = step;
      seen = record { live = is.seen.live; between = is.seen.between; low = λ s t see. low_words s low (anchor s t see) };
    },
    viewed l g step,
  )

  at_third : (version first second x : ℕ) → WasFree g version → (n ≡ 0 → (first ≡ 0) × (second ≡ 0) × (x ≡ 0))
      → Leads (Watches n version (live_sight ((anchor_offset, first) ∷ (anchor_offset + 1, second) ∷ []))) (Load (word_address l n (anchor_offset + 2))) x (saw_anchor walk version (first ∷ second ∷ x ∷ []))
  at_third version first second x free lowest =
      let sight = live_sight ((anchor_offset, first) ∷ (anchor_offset + 1, second) ∷ []) in
      let w : Watching = Watches n version sight in
      let low = first ∷ second ∷ x ∷ [] in
      elim (ltb (number_of walk.key) (number_of low)) as (λ b. ltb (number_of walk.key) (number_of low) ≡ b → Leads w (Load (word_address l n (anchor_offset + 2))) x
      (cond b (loads_at walk at.Prev) (loads_at walk (at.Next version low)))) [
        | true ↦ λ under. on w (Load (word_address l n (anchor_offset + 2))) x at.Prev (wanders (watching_loose g w) (has (anchor_offset + 2) (omega arith)) tt) watch.lets_go (wanders (view_loose w) (has (anchor_offset + 2) (omega arith)) tt) tt
            (λ zero. let low_is = lowest zero in let lt = ltb-true _ _ under in absurd (omega (arith, low_is.0, low_is.1, low_is.2)))
        | false ↦ λ above. sees_on w (Load (word_address l n (anchor_offset + 2))) x version (live_sight (anchor_seen low)) (at.Next version low) (watch.watches (has (anchor_offset + 2) (omega arith)) (omega arith) refl refl
            (λ s t see e. record { seen = (see.seen.0, (see.seen.1.0, (e, tt))); leads = λ some. absurd (some refl); beyond = λ some. absurd (some refl) }))
            refl (free, ltb-false _ _ above) tt
      ] refl

  at_next : (version : ℕ) (low : List ℕ) (x : ℕ) → WasFree g version → IsAbove walk.key low
      → Leads (Watches n version (live_sight (anchor_seen low))) (Load (word_address l n next_offset)) x (saw_next walk version low x)
  at_next version low x free above =
      let sight = live_sight (anchor_seen low) in
      let w : Watching = Watches n version sight in
      let action = Load (word_address l n next_offset) in
      elim (x == 0) as (λ b. (x == 0) ≡ b → Leads w action x
      (cond b (target walk version low None) (cond (ltb x l.nodes) (loads_at walk (at.HighFirst version low x)) (hops_to walk 0)))) [
        | true ↦ λ none. subst (λ m. Leads w action m (target walk version low None)) (sym (eqb-true x 0 none)) (
            let seen : Sighting = sighting version low None in
            let step : Watch l g w action 0 (Watches n version (sight_in seen)) = watch.watches (has next_offset (omega arith)) (omega arith) refl refl
            (λ s t see e. record { seen = (e, see.seen); leads = λ some. absurd (some refl); beyond = λ some. absurd (some refl) }) in
            ends_here w action 0 version low None (ends l g n n next_offset 0 sight seen (has next_offset (omega arith)) step) step (λ s t see. see.seen.1)
            (record {
              here = sound.node;
              seen = record { free = free; live = refl; between = λ s t see. last_between walk.key low low s t above see };
              above = above;
              below = tt;
              next = tt;
              high = refl;
            })
            )
        | false ↦ λ some. elim (ltb x l.nodes) as (λ b. ltb x l.nodes ≡ b → Leads w action x (cond b (loads_at walk (at.HighFirst version low x)) (hops_to walk 0))) [
          | true ↦ λ inside. sees_on w action x version (live_sight ((next_offset, x) ∷ anchor_seen low)) (at.HighFirst version low x) (watch.watches (has next_offset (omega arith)) (omega arith) refl refl
              (λ s t see e. record { seen = (e, see.seen); leads = λ some. absurd (some refl); beyond = λ some. absurd (some refl) }))
              refl (free, above, record { some = eqb-false x 0 some; within = ltb-true _ _ inside }) tt
          | false ↦ λ out. hop w action x 0 (λ s loose r up. wanders loose (has next_offset (omega arith)) up)
        ] refl
      ] refl

  at_high : (version : ℕ) (low : List ℕ) (next first second x : ℕ) → WasFree g version → IsAbove walk.key low → LeadsOn l next
      → Leads (Watches n version (leading_sight low next ((anchor_offset, first) ∷ (anchor_offset + 1, second) ∷ []))) (Load (word_address l next (anchor_offset + 2))) x (saw_high walk version low next (first ∷ second ∷ x ∷ []))
  at_high version low next first second x free above leads =
      let sight = leading_sight low next ((anchor_offset, first) ∷ (anchor_offset + 1, second) ∷ []) in
      let w : Watching = Watches n version sight in
      let action = Load (word_address l next (anchor_offset + 2)) in
      let high = first ∷ second ∷ x ∷ [] in
      let there : HasWordAt l next (anchor_offset + 2) = (leads.within, omega arith) in
      let leads_to : Next = record { node = next; anchor = high } in
      elim (ltb (number_of walk.key) (number_of high)) as (λ b. ltb (number_of walk.key) (number_of high) ≡ b → Leads w action x (cond b (target walk version low (Some leads_to)) (hops_to walk next))) [
        | true ↦ λ under.
            let seen : Sighting = sighting version low (Some leads_to) in
            let step : Watch l g w action x (Watches n version (sight_in seen)) = watch.watches_next there (omega arith) (omega arith) leads.some refl refl refl
            (λ s t see. see.leads leads.some)
            (λ s t see e. let beyond = see.beyond leads.some in
            record { seen = see.seen; leads = see.leads; beyond = λ some. (beyond.0, (beyond.1.0, ((omega arith, omega arith, e), tt))) }) in
            ends_here w action x version low (Some leads_to) (ends l g n next (anchor_offset + 2) x sight seen there step) step (λ s t see. see.seen.1)
            (record {
              here = sound.node;
              seen = record { free = free; live = refl; between = λ s t see. inner_between walk.key low high next s t leads.some above (ltb-true _ _ under) see };
              above = above;
              below = ltb-true _ _ under;
              next = leads;
              high = name_kept_so high;
            })
        | false ↦ λ past. hop w action x next (λ s loose r up. wanders loose there up)
      ] refl

  walk_leads : (at : WalkAt) (x : ℕ) → IsWalkAt l g walk.key at → KnowsFirst n at → Told l g (walk_at_asks l n at) x → Leads (walk_at_watching n at) (walk_at_asks l n at) x (walk_at_turned walk at x)
  walk_leads at.Version x here first told = at_version x (told.known n sound.node refl)
  walk_leads (at.Status version) x here first told = at_status version x here (λ zero. told.first_live (ap (λ k. Load (status_address l k)) zero))
  walk_leads (at.First version) x here first told =
      sees_on (Watches n version (live_sight [])) (Load (word_address l n anchor_offset)) x version (live_sight ((anchor_offset, x) ∷ [])) (at.Second version x) (watch.watches (has anchor_offset (omega arith)) (omega arith) refl refl
      (λ s t see e. record { seen = (e, tt); leads = λ some. absurd (some refl); beyond = λ some. absurd (some refl) })) refl here
      (λ zero. told.first_anchor anchor_offset (omega arith) (omega arith) (ap (λ k. Load (word_address l k anchor_offset)) zero))
  walk_leads (at.Second version word) x here first told =
      sees_on (Watches n version (live_sight ((anchor_offset, word) ∷ []))) (Load (word_address l n (anchor_offset + 1))) x version (live_sight ((anchor_offset, word) ∷ (anchor_offset + 1, x) ∷ [])) (at.Third version word x) (watch.watches (has (anchor_offset + 1) (omega arith)) (omega arith) refl refl
      (λ s t see e. record { seen = (see.seen.0, (e, tt)); leads = λ some. absurd (some refl); beyond = λ some. absurd (some refl) })) refl here
      (λ zero. (first zero, told.first_anchor (anchor_offset + 1) (omega arith) (omega arith) (ap (λ k. Load (word_address l k (anchor_offset + 1))) zero)))
  walk_leads (at.Third version word second) x here first told =
      at_third version word second x here (λ zero. ((first zero).0, (first zero).1, told.first_anchor (anchor_offset + 2) (omega arith) (omega arith) (ap (λ k. Load (word_address l k (anchor_offset + 2))) zero)))
  walk_leads (at.Next version low) x here first told = at_next version low x here.0 here.1
  walk_leads (at.HighFirst version low next) x here first told =
      let there : HasWordAt l next anchor_offset = (here.2.within, omega arith) in
      sees_on (Watches n version (live_sight ((next_offset, next) ∷ anchor_seen low))) (Load (word_address l next anchor_offset)) x version (leading_sight low next ((anchor_offset, x) ∷ [])) (at.HighSecond version low next x)
      (watch.watches_next there (omega arith) (omega arith) here.2.some refl refl refl (λ s t see. see.seen.0)
      (λ s t see e. record { seen = see.seen; leads = λ some. see.seen.0; beyond = λ some. ((omega arith, omega arith, e), tt) })) refl here tt
  walk_leads (at.HighSecond version low next word) x here first told =
      let there : HasWordAt l next (anchor_offset + 1) = (here.2.within, omega arith) in
      sees_on (Watches n version (leading_sight low next ((anchor_offset, word) ∷ []))) (Load (word_address l next (anchor_offset + 1))) x version (leading_sight low next ((anchor_offset, word) ∷ (anchor_offset + 1, x) ∷ [])) (at.HighThird version low next word x)
      (watch.watches_next there (omega arith) (omega arith) here.2.some refl refl refl (λ s t see. see.seen.0)
      (λ s t see e. let beyond = see.beyond here.2.some in record { seen = see.seen; leads = see.leads; beyond = λ some. (beyond.0, ((omega arith, omega arith, e), tt)) })) refl here tt
  walk_leads (at.HighThird version low next word second) x here first told = at_high version low next word second x here.0 here.1 here.2
  walk_leads at.Prev x here first told = hop Nothing (Load (prev_address l n)) x x (λ s loose r up. steps_back loose sound.node up)

walks_lead : (walk : Walk) (x : ℕ) → (sound : IsWalk walk) → Told walk.layout walk.generation (walk_asks walk) x → Leads walk sound (walk_watching walk) (walk_asks walk) x (walk_turned walk x)
walks_lead walk x sound told = walk_leads walk sound walk.at x sound.here sound.first told

pub walks_are_looks : WalksAreLooks
walks_are_looks walk x sound told = (walks_lead walk x sound told).0

pub walks_are_watches : WalksAreWatches
walks_are_watches walk x sound told = (walks_lead walk x sound told).1

pub walks_are_views : WalksAreViews
walks_are_views walk x sound told = (walks_lead walk x sound told).2
