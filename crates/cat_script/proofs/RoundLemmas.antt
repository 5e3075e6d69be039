-- Rounds, line by line.
use Rattle.std.proofs.Common.{◌≡◌, ℕ, ◌<◌, ◌^◌, inl, inr, List, [], ◌∷◌, ◌++◌, length, Option, refl, sym, ap, subst, ◌∙◌, arith, append_assoc}
use Rattle.std.proofs.lemmas.List.{append-nil, length-append}
use Rattle.std.specs.List.{AllByRecursion}
use Rattle.cat_history.specs.declared.op.CallerOp.{CallerOp}
use Rattle.cat_history.specs.declared.plan.CrashPlan.{CrashPlan}
use Rattle.cat_history.specs.declared.plan.RoundPlan.{RoundPlan}
use Rattle.cat_script.specs.Grouping.{IsGrouping}
use Rattle.cat_script.specs.Rounds.{calls_in, settings_in, GoesOn, EndsBy, AsksRound, AreEnded, AreRounds, HasLast}
use Rattle.cat_script.specs.declared.grouping.Grouping.{Grouping}
use Rattle.cat_script.specs.declared.line.Line.{Line}
use Rattle.cat_script.specs.declared.line.Line.TheVariants.{Blank, Call, Join, Crash, Updater, Limit}

pub calls_in-append : (a b : List Line) → calls_in (a ++ b) ≡ calls_in a ++ calls_in b
calls_in-append [] b = refl
calls_in-append (Blank ∷ a) b = calls_in-append a b
calls_in-append (Call caller op ∷ a) b = ap (λ (cs : List CallerOp). record { caller = caller; op = op } ∷ cs) (calls_in-append a b)
calls_in-append (Join ∷ a) b = calls_in-append a b
calls_in-append (Crash plan ∷ a) b = calls_in-append a b
calls_in-append (Updater turns ∷ a) b = calls_in-append a b
calls_in-append (Limit limit ∷ a) b = calls_in-append a b

pub settings_in-append : (first : ℕ × ℕ) (a b : List Line) → settings_in first (a ++ b) ≡ settings_in (settings_in first a) b
settings_in-append first [] b = refl
settings_in-append first (Blank ∷ a) b = settings_in-append first a b
settings_in-append first (Call caller op ∷ a) b = settings_in-append first a b
settings_in-append first (Join ∷ a) b = settings_in-append first a b
settings_in-append first (Crash plan ∷ a) b = settings_in-append first a b
settings_in-append first (Updater turns ∷ a) b = settings_in-append (turns, first.1) a b
settings_in-append first (Limit limit ∷ a) b = settings_in-append (first.0, limit) a b

pub going_more : (lines : List Line) (line : Line) → AllByRecursion GoesOn lines → GoesOn line → AllByRecursion GoesOn (lines ++ line ∷ [])
going_more [] line going goes = (goes, tt)
going_more (first ∷ lines) line going goes = (going.0, going_more lines line going.1 goes)

-- a line that ends a round sets nothing
end_sets_nothing : (line : Line) (crash : Option CrashPlan) (first : ℕ × ℕ) → EndsBy line crash → settings_in first (line ∷ []) ≡ first
end_sets_nothing Blank crash first ends = absurd ends
end_sets_nothing (Call caller op) crash first ends = absurd ends
end_sets_nothing Join crash first ends = refl
end_sets_nothing (Crash plan) crash first ends = refl
end_sets_nothing (Updater turns) crash first ends = absurd ends
end_sets_nothing (Limit limit) crash first ends = absurd ends

-- one more ended round
pub ended_more : (before lines round : List Line) (end : Line) (plans : List RoundPlan) (plan : RoundPlan) → AreEnded before lines plans → AsksRound (before ++ lines) round plan →
    EndsBy end plan.crash → AreEnded before ((lines ++ round) ++ end ∷ []) (plans ++ plan ∷ [])
ended_more before lines round end [] plan ended asks ends = (
  round,
  end,
  [],
  ap (λ (ls : List Line). (ls ++ round) ++ end ∷ []) ended,
  subst (λ (ls : List Line). AsksRound ls round plan) (ap (λ (ls : List Line). before ++ ls) ended ∙ append-nil before) asks,
  ends,
  refl,
)
ended_more before lines round end (p ∷ plans) plan ended asks ends =
    let r = ended.0 in
    let e = ended.1 in
    let rest = ended.2 in
    let whole : before ++ lines ≡ ((before ++ r) ++ e ∷ []) ++ rest =
    ap (λ (ls : List Line). before ++ ls) ended.3 ∙ sym (append_assoc before r (e ∷ rest)) ∙ sym (append_assoc (before ++ r) (e ∷ []) rest) in (
      r,
      e,
      (rest ++ round) ++ end ∷ [],
      ap (λ (ls : List Line). (ls ++ round) ++ end ∷ []) ended.3 ∙ ap (λ (ls : List Line). ls ++ end ∷ []) (append_assoc r (e ∷ rest) round) ∙ append_assoc r (e ∷ (rest ++ round)) (end ∷ []),
      ended.4,
      ended.5,
      ended_more ((before ++ r) ++ e ∷ []) rest round end plans plan ended.6 (subst (λ (ls : List Line). AsksRound ls round plan) whole asks) ends,
    )

-- a line that goes on
pub one_going : (said : List Line) (line : Line) (g g' : Grouping) → GoesOn line → g'.ended.items ≡ g.ended.items → g'.ops.items ≡ g.ops.items ++ calls_in (line ∷ []) →
    (g'.updater, g'.limit) ≡ settings_in (g.updater, g.limit) (line ∷ []) → IsGrouping said g → IsGrouping (said ++ line ∷ []) g'
one_going said line g g' goes ended ops sets is = record {
  closed = is.closed;
  rest = is.rest ++ line ∷ [];
  cut = ap (λ (ls : List Line). ls ++ line ∷ []) is.cut ∙ append_assoc is.closed is.rest (line ∷ []);
  ended = subst (AreEnded [] is.closed) (sym ended) is.ended;
  going = going_more is.rest line is.going goes;
  ops = ops ∙ ap (λ (cs : List CallerOp). cs ++ calls_in (line ∷ [])) is.ops ∙ sym (calls_in-append is.rest (line ∷ []));
  settings = sets ∙ ap (λ (first : ℕ × ℕ). settings_in first (line ∷ [])) is.settings ∙ sym (settings_in-append (64, 2 ^ 62) said (line ∷ []));
}

-- what the round is asked that ends behind these lines
pub asked_so : (said : List Line) (g : Grouping) (plan : RoundPlan) (is : IsGrouping said g) → plan.ops ≡ g.ops.items → plan.updater ≡ g.updater → plan.limit ≡ g.limit →
    AsksRound is.closed is.rest plan
asked_so said g plan is ops updater limit =
    let sets : (g.updater, g.limit) ≡ settings_in (64, 2 ^ 62) (is.closed ++ is.rest) = is.settings ∙ ap (settings_in (64, 2 ^ 62)) is.cut in
    record {
      going = is.going;
      ops = ops ∙ is.ops;
      updater = updater ∙ ap (λ (s : ℕ × ℕ). s.0) sets;
      limit = limit ∙ ap (λ (s : ℕ × ℕ). s.1) sets;
    }

-- a line that ends a round
pub one_ended : (said : List Line) (line : Line) (g g' : Grouping) (plan : RoundPlan) → EndsBy line plan.crash → plan.ops ≡ g.ops.items → plan.updater ≡ g.updater → plan.limit ≡ g.limit →
    g'.ended.items ≡ g.ended.items ++ plan ∷ [] → g'.ops.items ≡ [] → g'.updater ≡ g.updater → g'.limit ≡ g.limit → IsGrouping said g → IsGrouping (said ++ line ∷ []) g'
one_ended said line g g' plan ends ops updater limit ended none turns most is = record {
  closed = said ++ line ∷ [];
  rest = [];
  cut = sym (append-nil (said ++ line ∷ []));
  ended = subst (AreEnded [] (said ++ line ∷ [])) (sym ended)
      (subst (λ (ls : List Line). AreEnded [] (ls ++ line ∷ []) (g.ended.items ++ plan ∷ [])) (sym is.cut)
      (ended_more [] is.closed is.rest line g.ended.items plan is.ended (asked_so said g plan is ops updater limit) ends));
  going = tt;
  ops = none;
  settings = (λ i. (turns i, most i)) ∙ is.settings ∙ sym (end_sets_nothing line plan.crash (settings_in (64, 2 ^ 62) said) ends) ∙ sym (settings_in-append (64, 2 ^ 62) said (line ∷ []));
}

-- lines that ended a round are some
ended_some : (lines : List Line) (plans : List RoundPlan) → 0 < length plans → AreEnded [] lines plans → lines ≡ [] → ⊥
ended_some lines [] some ended none = omega (arith, some)
ended_some lines (plan ∷ plans) some ended none =
    omega (arith, ap length none, ap length ended.3, length-append ended.0 (ended.1 ∷ ended.2))

-- a script that ends behind a line that ends a round
pub finish_there : (said : List Line) (g : Grouping) → g.ops.items ≡ [] → 0 < length g.ended.items → IsGrouping said g → AreRounds said g.ended.items
finish_there said g none some is = record {
  closed = is.closed;
  rest = is.rest;
  cut = is.cut;
  going = is.going;
  finish = inl (not_last, is.ended);
} where
  not_last : ¬ HasLast is.closed is.rest
  not_last (inl calls) = calls (sym is.ops ∙ none)
  not_last (inr closed) = ended_some is.closed g.ended.items some is.ended closed
