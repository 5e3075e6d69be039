-- Each turn of a walk keeps node and hops, or makes one hop.
use Rattle.std.proofs.Common.{◌≡◌, ◌≢◌, ℕ, ◌+◌, ◌*◌, ◌<◌, ◌==◌, true, false, cond, ltb, inl, inr, Some, None, refl, sym, ap, ◌∙◌, arith, [], ◌∷◌}
use Rattle.std.proofs.lemmas.Bool.{eqb-true, eqb-false, ltb-false}
use Rattle.pm_words.specs.Codes.{live_status, gone_status}
use Rattle.pm_words.specs.declared.action.Action.TheVariants.{Load}
use Rattle.data_node.specs.Lists.{number_of}
use Rattle.pm_words.specs.declared.machine.Turn.{Turn}
use Rattle.pm_words.specs.declared.machine.Turn.TheVariants.{Go, Done}
use Rattle.pm_words.specs.declared.again.Again.TheVariants.{Locked, Hops}
use Rattle.pm_words.specs.Offsets.{next_offset}
use Rattle.data_list.specs.declared.target.Walked.{Walked}
use Rattle.data_list.specs.declared.target.Walked.TheVariants as walked
use Rattle.data_list.specs.declared.walk.Walk.{Walk}
use Rattle.data_list.specs.declared.walk.WalkAt.{WalkAt}
use Rattle.data_list.specs.declared.walk.WalkAt.TheVariants as at
use Rattle.data_list.specs.Walks.{landing, loads_at, hops_to, target, walk_at_asks, walk_at_turned, LeadsOn, IsWalkAt, KnowsFirst, IsWalk}
use Rattle.call_stages.specs.Kinds.{Told, status_address, word_address}
use Rattle.version_lock.specs.Versions.{is_free_word}
use Rattle.data_list.specs.Hops.{hop_from, HopsAt, WalksHop}
use Rattle.version_lock.proofs.WordTests.{taken_word}

module _ (walk : Walk) (sound : IsWalk walk) where
  abbrev Leads : WalkAt → ℕ → Turn Walk Walked → Type 0
  Leads = HopsAt walk

  on : (load : WalkAt) (x : ℕ) (next : WalkAt) → Leads load x (loads_at walk next)
  on load x next = inl (record { node = refl; hops = refl })

  -- where a walk at node 0 hops to another one, each walk does
  lands_elsewhere : (number : ℕ) → (walk.node ≡ 0 → LeadsOn walk.layout number) → landing walk number ≢ walk.node
  lands_elsewhere number leads =
      elim (number == walk.node) as (λ b. (number == walk.node) ≡ b → cond b 0 (cond (ltb number walk.layout.nodes) number 0) ≢ walk.node) [
        | true ↦ λ own is. (leads (sym is)).some (eqb-true _ _ own ∙ sym is)
        | false ↦ λ other. elim (ltb number walk.layout.nodes) as (λ b. ltb number walk.layout.nodes ≡ b → cond b number 0 ≢ walk.node) [
          | true ↦ λ inside. eqb-false _ _ other
          | false ↦ λ out is. let below = (leads (sym is)).within in let above = ltb-false _ _ out in absurd (omega arith)
        ] refl
      ] refl

  abbrev MayBe : WalkAt → ℕ → Type 0
  MayBe load x = Told walk.layout walk.generation (walk_at_asks walk.layout walk.node load) x

  hop : (load : WalkAt) (x number : ℕ) → number ≡ hop_from load x → (MayBe load x → walk.node ≡ 0 → LeadsOn walk.layout number) → Leads load x (hops_to walk number)
  hop load x number is leads =
      elim (ltb (walk.hops + 1) (2 * walk.layout.nodes)) as (λ b. ltb (walk.hops + 1) (2 * walk.layout.nodes) ≡ b → Leads load x
      (cond b (Go (record walk { node = landing walk number; hops = walk.hops + 1; at = at.Version })) (Done (walked.Again (Hops (walk.hops + 1)))))) [
        | true ↦ λ more. inr (record { node = ap (landing walk) is; hops = refl; anew = refl; changed = λ told. lands_elsewhere number (leads told) })
        | false ↦ λ last. let few : walk.hops < 2 * walk.layout.nodes = sound.hops in let many = ltb-false _ _ last in (refl, omega arith)
      ] refl

  pub hops_at : (load : WalkAt) (x : ℕ) → IsWalkAt walk.layout walk.generation walk.key load → KnowsFirst walk.node load → Leads load x (walk_at_turned walk load x)
  hops_at at.Version x here first =
      elim (is_free_word x walk.generation) as (λ b. is_free_word x walk.generation ≡ b → Leads at.Version x (cond b (loads_at walk (at.Status x)) (Done (walked.Again (Locked walk.node x))))) [
        | true ↦ λ free. on at.Version x (at.Status x)
        | false ↦ λ taken. (refl, refl, taken_word x walk.generation taken)
      ] refl
  hops_at (at.Status version) x here first =
      elim (x == live_status) as (λ b. (x == live_status) ≡ b → Leads (at.Status version) x (cond b (loads_at walk (at.First version)) (cond (x == gone_status) (loads_at walk at.Prev) (hops_to walk 0)))) [
        | true ↦ λ live. on (at.Status version) x (at.First version)
        | false ↦ λ other. elim (x == gone_status) as (λ b. Leads (at.Status version) x (cond b (loads_at walk at.Prev) (hops_to walk 0))) [
          | true ↦ on (at.Status version) x at.Prev
          | false ↦ hop (at.Status version) x 0 refl (λ told zero. absurd (eqb-false _ _ other (told.first_live (ap (λ n. Load (status_address walk.layout n)) zero))))
        ]
      ] refl
  hops_at (at.First version) x here first = on (at.First version) x (at.Second version x)
  hops_at (at.Second version word) x here first = on (at.Second version word) x (at.Third version word x)
  hops_at (at.Third version word second) x here first =
      let low = word ∷ second ∷ x ∷ [] in
      elim (ltb (number_of walk.key) (number_of low)) as (λ b. Leads (at.Third version word second) x (cond b (loads_at walk at.Prev) (loads_at walk (at.Next version low)))) [
        | true ↦ on (at.Third version word second) x at.Prev
        | false ↦ on (at.Third version word second) x (at.Next version low)
      ]
  hops_at (at.Next version low) x here first =
      elim (x == 0) as (λ b. (x == 0) ≡ b → Leads (at.Next version low) x (cond b (target walk version low None) (cond (ltb x walk.layout.nodes) (loads_at walk (at.HighFirst version low x)) (hops_to walk 0)))) [
        | true ↦ λ none. (refl, refl)
        | false ↦ λ some. elim (ltb x walk.layout.nodes) as (λ b. ltb x walk.layout.nodes ≡ b → Leads (at.Next version low) x (cond b (loads_at walk (at.HighFirst version low x)) (hops_to walk 0))) [
          | true ↦ λ inside. on (at.Next version low) x (at.HighFirst version low x)
          | false ↦ λ out. hop (at.Next version low) x 0 refl (λ told zero.
              let within = told.first_next (ap (λ n. Load (word_address walk.layout n next_offset)) zero) (eqb-false _ _ some) in let above = ltb-false _ _ out in absurd (omega arith))
        ] refl
      ] refl
  hops_at (at.HighFirst version low next) x here first = on (at.HighFirst version low next) x (at.HighSecond version low next x)
  hops_at (at.HighSecond version low next word) x here first = on (at.HighSecond version low next word) x (at.HighThird version low next word x)
  hops_at (at.HighThird version low next word second) x here first =
      let high = word ∷ second ∷ x ∷ [] in
      elim (ltb (number_of walk.key) (number_of high)) as (λ b. Leads (at.HighThird version low next word second) x (cond b (target walk version low (Some (record { node = next; anchor = high }))) (hops_to walk next))) [
        | true ↦ (refl, refl)
        | false ↦ hop (at.HighThird version low next word second) x next refl (λ told zero. here.2)
      ]
  hops_at at.Prev x here first = hop at.Prev x x refl (λ told zero. absurd (first zero))

pub walks_hop : WalksHop
walks_hop walk x sound = hops_at walk sound walk.at x sound.here sound.first
