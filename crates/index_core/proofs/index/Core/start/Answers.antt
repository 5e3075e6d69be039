use Rattle.std.proofs.Common.{◌≡◌, ℕ, ◌+◌, ◌<◌, ◌≤◌, inl, inr, refl, ap, subst, arith}
use Rattle.std.proofs.lemmas.Result.{on_ok_weaker}
use Rattle.pm_words.specs.declared.layout.Layout.{Layout}
use Rattle.index_core.specs.declared.party.CoreCall.{CoreCall}
use Rattle.index_core.specs.declared.party.CoreCall.TheVariants as call
use Rattle.index_core.specs.CoreCalls.{IsRecheckAnd, IsTurnAnd, MayBegin, MayStart, most_writes}
use Rattle.index_core.specs.Indexes.{Index}
use Rattle.index_core.proofs.Either.{IsNoRecheck, IsNoTurn, a_recheck, a_turn, name_flies, no_recheck, no_turn, recheck_flies, turn_flies}
use Rattle.index_core.proofs.index.Core.start.Goals as goal

-- what a party may start, by what it starts
may_turn : (l : Layout) (i : ℕ) (c : CoreCall) (stamp release : ℕ)
    → c ≡ call.Turn stamp release → MayStart l i c → (i ≤ l.callers) × (1 ≤ stamp)
may_turn l i c stamp release is may = case (subst (MayStart l i) is may)
  where
    case : MayStart l i (call.Turn stamp release) → (i ≤ l.callers) × (1 ≤ stamp)
    case (inl name) = absurd name.1
    case (inr (inl turn)) = turn
    case (inr (inr recheck)) = absurd recheck

may_recheck : (l : Layout) (i : ℕ) (c : CoreCall) (node version : ℕ)
    → c ≡ call.Recheck node version → MayStart l i c → (i < l.callers) × (node < l.nodes)
may_recheck l i c node version is may = case (subst (MayStart l i) is may)
  where
    case : MayStart l i (call.Recheck node version) → (i < l.callers) × (node < l.nodes)
    case (inl name) = absurd name.1
    case (inr (inl turn)) = absurd turn
    case (inr (inr recheck)) = recheck

never_turn : (c : CoreCall) (P : ℕ → ℕ → Type 0) → IsNoTurn c → IsTurnAnd c P → ⊥
never_turn (call.Put name value limit) P none is = is
never_turn (call.Get name) P none is = is
never_turn (call.Del name limit) P none is = is
never_turn (call.Part low count) P none is = is
never_turn (call.Recheck node version) P none is = is
never_turn (call.Turn stamp release) P none is = none stamp release refl

never_recheck : (c : CoreCall) (P : ℕ → ℕ → Type 0) → IsNoRecheck c → IsRecheckAnd c P → ⊥
never_recheck (call.Put name value limit) P none is = is
never_recheck (call.Get name) P none is = is
never_recheck (call.Del name limit) P none is = is
never_recheck (call.Part low count) P none is = is
never_recheck (call.Recheck node version) P none is = none node version refl
never_recheck (call.Turn stamp release) P none is = is

may_name : (l : Layout) (i : ℕ) (c : CoreCall) → IsNoTurn c → IsNoRecheck c → MayStart l i c
    → (i < l.callers) × MayBegin c
may_name l i c none unchecked (inl name) = name
may_name l i c none unchecked (inr (inl turn)) = absurd (never_turn c _ none turn)
may_name l i c none unchecked (inr (inr recheck)) = absurd (never_recheck c _ unchecked recheck)

one_kind : (c : CoreCall) (stamp release node version : ℕ)
    → c ≡ call.Turn stamp release → c ≡ call.Recheck node version → ⊥
one_kind c stamp release node version turn recheck = cc

-- and what it places, where that is nothing
spare_left : (old new most : ℕ) → new ≡ old → most ≡ 0 → new + most ≡ old
spare_left old new most same none = omega arith

pub start_turn-requires : goal.start_turn-requires
start_turn-requires c =
    let turn = c.in-Turn in
    let may = may_turn c.args.self.now.layout c.args.party c.args.call turn.stamp turn.release turn.is c.requires.may in
    record { party = may.0; stamp = may.1 }

pub start_recheck-requires : goal.start_recheck-requires
start_recheck-requires c =
    let check = c.in-Recheck in
    let may = may_recheck c.args.self.now.layout c.args.party c.args.call check.node check.version check.is c.requires.may in
    record { party = may.0; node = may.1 }

pub start_name-requires : goal.start_name-requires
start_name-requires c =
    let none = c.in_default in
    let may = may_name c.args.self.now.layout c.args.party c.args.call none.not-Turn none.not-Recheck c.requires.may in
    record { party = may.0; begins = may.1; spare = c.requires.spare }

pub returns-in-Turn : goal.returns-in-Turn
returns-in-Turn c =
    let begun = c.start_turn.ensures in
    let result = c.start_turn.result in
    let stamp = c.in-Turn.stamp in
    let release = c.in-Turn.release in
    let is = c.in-Turn.is in
    let none : most_writes c.args.call ≡ 0 = ap most_writes is in
    record {
      in_flight = begun.in_flight;
      err = begun.err;
      started = on_ok_weaker result (λ started. λ may. absurd (subst MayBegin is may)) begun.started;
      turns = on_ok_weaker result (λ started. a_turn c.args.call _ stamp release is started) begun.started;
      rechecks = on_ok_weaker result (λ started. no_recheck c.args.call _
          (λ node version same. one_kind c.args.call stamp release node version is same)) begun.started;
      flies = on_ok_weaker result (turn_flies c.args.self.now c.start_turn.new.self c.args.party stamp release) begun.started;
      spare = on_ok_weaker result (λ started. spare_left _ _ _ (ap (λ (s : Index). s.spare) started.is) none) begun.started;
      before = begun.before;
      index = begun.index;
    }

pub returns-in-Recheck : goal.returns-in-Recheck
returns-in-Recheck c =
    let begun = c.start_recheck.ensures in
    let result = c.start_recheck.result in
    let node = c.in-Recheck.node in
    let version = c.in-Recheck.version in
    let is = c.in-Recheck.is in
    let none : most_writes c.args.call ≡ 0 = ap most_writes is in
    record {
      in_flight = begun.in_flight;
      err = begun.err;
      started = on_ok_weaker result (λ started. λ may. absurd (subst MayBegin is may)) begun.started;
      turns = on_ok_weaker result (λ started. no_turn c.args.call _
          (λ stamp release same. one_kind c.args.call stamp release node version same is)) begun.started;
      rechecks = on_ok_weaker result (λ started. a_recheck c.args.call _ node version is started) begun.started;
      flies = on_ok_weaker result (recheck_flies c.args.self.now c.start_recheck.new.self c.args.party node version) begun.started;
      spare = on_ok_weaker result (λ started. spare_left _ _ _ (ap (λ (s : Index). s.spare) started.is) none) begun.started;
      before = begun.before;
      index = begun.index;
    }

pub returns-in_default : goal.returns-in_default
returns-in_default c =
    let begun = c.start_name.ensures in
    let none : IsNoTurn c.args.call = c.in_default.not-Turn in
    let unchecked : IsNoRecheck c.args.call = c.in_default.not-Recheck in
    record {
      in_flight = begun.in_flight;
      err = begun.err;
      started = on_ok_weaker c.start_name.result (λ started. λ may. started) begun.started;
      turns = on_ok_weaker c.start_name.result (λ started. no_turn c.args.call _ none) begun.started;
      rechecks = on_ok_weaker c.start_name.result (λ started. no_recheck c.args.call _ unchecked) begun.started;
      flies = on_ok_weaker c.start_name.result (name_flies c.args.self.now c.start_name.new.self c.args.party c.args.call) begun.started;
      spare = begun.spare;
      before = begun.before;
      index = begun.index;
    }
