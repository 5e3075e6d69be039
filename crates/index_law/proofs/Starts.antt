-- A start of a call, and an index in which nothing is in flight.
use Rattle.std.proofs.Common.{◌≡◌, ◌≢◌, ℕ, ◌<◌, ◌≤◌, inl, inr, ⊎_elim, List, ◌++◌, length, set, refl, sym, ap, ◌∙◌, subst, arith, [], ◌∷◌}
use mathlib.Core.Option.{some, some-injective}
use lib.ListN.{get_elem?}
use Rattle.version_lock.specs.Versions.{IsFree}
use Rattle.call_stages.specs.Stages.{Stage, Idle}
use Rattle.index_law.specs.Worlds.{Party, World, facts}
use Rattle.index_law.specs.Twins.{AreDurable, BacksStage}
use Rattle.pm_words.specs.declared.layout.Layout.{Layout}
use Rattle.pm_words.specs.Layouts.{IsLayout}
use Rattle.index_law.specs.Facts.{Facts, IsListed, durable_spot}
use Rattle.data_node.proofs.ListLemmas.{all_member}
use Rattle.index_law.specs.Lawful.{IsList, AreAlone, AreBacked, AreFreeOrHeld, AreSettled, AreSure, HaveBegun, IsSettled, Sure, IsHeld, Lawful}
use Rattle.call_stages.specs.Stages.{HoldsNode}
use Rattle.index_law.specs.Laws.{StartKeeps, JoinKeeps, RestIsLawful, IdleIsAtRest}
use Rattle.index_law.proofs.Parties.{at_set, at_snoc, at_longer, each_snoc, set_else, each_set}

-- a listed node is one of the layout's
pub listed_within : (l : Layout) (f : Facts) → IsList l f → IsLayout l → (n : ℕ) → IsListed f n → n < l.nodes
listed_within l f list layout n (inl e) = let least = layout.nodes in omega (arith, e)
listed_within l f list layout n (inr among) = all_member (λ m. m < l.nodes) f.list n list.within among

-- the world with another party in the place of one
abbrev replaced : World → ℕ → Party → World
replaced w i q = record { layout = w.layout; generation = w.generation; words = w.words; parties = set w.parties i q; base = w.base; history = w.history }

idle_holds : (p : Party) (n : ℕ) → p.stage ≡ Idle → HoldsNode p.stage n → ⊥
idle_holds p n idle holds = subst (λ (s : Stage). HoldsNode s n) idle holds

-- the same words are lawful with other parties
with_parties : (w : World) (parties : List Party) → Lawful w → AreSure w.layout w.generation (facts w) parties → HaveBegun w.history parties → AreAlone parties
    → AreFreeOrHeld w.layout w.generation (facts w) parties → AreBacked w.layout (facts w) w.words parties → Lawful (record w { parties = parties })
with_parties w parties lawful sure begun alone held backed = assumption lawful

-- a party that relies on nothing may be replaced by another one that relies on nothing
pub swap_law : (w : World) (i : ℕ) (p q : Party) → Lawful w → get_elem? w.parties i ≡ some p → p.stage ≡ Idle → q.stage ≡ Idle → q.since ≤ length w.history → Lawful (replaced w i q)
swap_law w i p q lawful there idle idle' since = with_parties w (set w.parties i q) lawful
    (each_set (λ (d : Party). Sure w.layout w.generation (facts w) d.caller d.index d.since d.stage) w.parties i q (λ j d other at. lawful.sure j d at)
    (subst (λ (s : Stage). Sure w.layout w.generation (facts w) q.caller q.index q.since s) (sym idle') tt))
    (each_set (λ (d : Party). d.since ≤ length w.history) w.parties i q (λ j d other at. lawful.begun j d at) since)
    (λ u v n b d at_u at_v holds_u holds_v. ⊎_elim
    (λ (first : (u ≡ i) × (q ≡ b)). absurd (idle_holds q n idle' (subst (λ (e : Party). HoldsNode e.stage n) (sym first.1) holds_u)))
    (λ (first : (u ≢ i) × (get_elem? w.parties u ≡ some b)). ⊎_elim
    (λ (second : (v ≡ i) × (q ≡ d)). absurd (idle_holds q n idle' (subst (λ (e : Party). HoldsNode e.stage n) (sym second.1) holds_v)))
    (λ (second : (v ≢ i) × (get_elem? w.parties v ≡ some d)). lawful.alone u v n b d first.1 second.1 holds_u holds_v)
    (at_set w.parties i v q d at_v))
    (at_set w.parties i u q b at_u))
    (λ n here. ⊎_elim
    (λ (free : IsFree ((facts w).version n) w.generation). inl free)
    (λ (held : IsHeld w.parties n).
    let other : held.number ≢ i =
    (λ same. idle_holds p n idle (subst (λ (e : Party). HoldsNode e.stage n) (some-injective _ _ (sym held.there ∙ ap (get_elem? w.parties) same ∙ there)) held.holds)) in
    inr (record { number = held.number; party = held.party; there = set_else w.parties i held.number q other ∙ held.there; holds = held.holds }))
    (lawful.held n here))
    (each_set (λ (d : Party). BacksStage w.layout (facts w) w.words d.stage) w.parties i q (λ j d other at. lawful.backed j d at)
    (subst (λ (s : Stage). BacksStage w.layout (facts w) w.words s) (sym idle') tt))

pub start_law : StartKeeps
start_law w i p index lawful there idle =
    swap_law w i p (record { caller = p.caller; index = index; since = length w.history; stage = Idle }) lawful there idle refl (omega arith)

pub join_law : JoinKeeps
join_law w q lawful idle since = with_parties w (w.parties ++ q ∷ []) lawful
    (each_snoc (λ (d : Party). Sure w.layout w.generation (facts w) d.caller d.index d.since d.stage) w.parties q lawful.sure
    (subst (λ (s : Stage). Sure w.layout w.generation (facts w) q.caller q.index q.since s) (sym idle) tt))
    (each_snoc (λ (d : Party). d.since ≤ length w.history) w.parties q lawful.begun since)
    (λ u v n b d at_u at_v holds_u holds_v. ⊎_elim
    (λ (first : get_elem? w.parties u ≡ some b). ⊎_elim
    (λ (second : get_elem? w.parties v ≡ some d). lawful.alone u v n b d first second holds_u holds_v)
    (λ (second : q ≡ d). absurd (idle_holds q n idle (subst (λ (e : Party). HoldsNode e.stage n) (sym second) holds_v)))
    (at_snoc w.parties q d v at_v))
    (λ (first : q ≡ b). absurd (idle_holds q n idle (subst (λ (e : Party). HoldsNode e.stage n) (sym first) holds_u)))
    (at_snoc w.parties q b u at_u))
    (λ n here. ⊎_elim
    (λ (free : IsFree ((facts w).version n) w.generation). inl free)
    (λ (held : IsHeld w.parties n).
    inr (record { number = held.number; party = held.party; there = at_longer w.parties (q ∷ []) held.number held.party held.there; holds = held.holds }))
    (lawful.held n here))
    (each_snoc (λ (d : Party). BacksStage w.layout (facts w) w.words d.stage) w.parties q lawful.backed
    (subst (λ (s : Stage). BacksStage w.layout (facts w) w.words s) (sym idle) tt))

pub rest_law : RestIsLawful
rest_law w rest =
    let sure : AreSure w.layout w.generation (facts w) w.parties =
    λ j d at. subst (λ (s : Stage). Sure w.layout w.generation (facts w) d.caller d.index d.since s) (sym (rest.idle j d at)) tt in
    let alone : AreAlone w.parties = λ u v n b d at_u at_v holds_u holds_v. absurd (idle_holds b n (rest.idle u b at_u) holds_u) in
    let settled : AreSettled w.layout w.generation (facts w) = λ n is free. rest.settled n is in
    let held : AreFreeOrHeld w.layout w.generation (facts w) w.parties = λ n here. inl (rest.free n here) in
    let backed : AreBacked w.layout (facts w) w.words w.parties = λ j d at. subst (λ (s : Stage). BacksStage w.layout (facts w) w.words s) (sym (rest.idle j d at)) tt in
    let durable : AreDurable w.layout w.generation (facts w) w.words = λ n here free. rest.durable n here in
    assumption rest

pub idle_law : IdleIsAtRest
idle_law w lawful idle =
    let free : (n : ℕ) → n < w.layout.nodes → IsFree ((facts w).version n) w.generation =
    λ n here. ⊎_elim
    (λ (free : IsFree ((facts w).version n) w.generation). free)
    (λ (held : IsHeld w.parties n). absurd (idle_holds held.party n (idle held.number held.party held.there) held.holds))
    (lawful.held n here) in
    let settled : (n : ℕ) → IsListed (facts w) n → IsSettled w.layout (facts w) n =
    λ n is. lawful.settled n is (free n (listed_within w.layout (facts w) lawful.list lawful.row.layout n is)) in
    let durable : (n : ℕ) → n < w.layout.nodes → (offset : ℕ) → durable_spot w.layout w.words n offset ≡ (facts w).now n offset = λ n here. lawful.durable n here (free n here) in
    assumption lawful
