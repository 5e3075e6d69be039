-- What walks of turns rely on stays as calls take their steps.
use Rattle.std.proofs.Common.{◌≡◌, ℕ, List, ◌∙◌, sym, subst, arith}
use Rattle.pm_words.specs.declared.layout.Layout.{Layout}
use Rattle.version_lock.specs.Versions.{IsFree}
use Rattle.call_stages.specs.Watches.{Watching, Nothing, Watches}
use Rattle.index_law.specs.Facts.{Facts}
use Rattle.index_law.specs.Lawful.{IsList}
use Rattle.index_law.proofs.Bystanders.{IsLater, IsCalm, stands_kept}
use Rattle.updater_row_law.specs.RowStages.{RowTarget}
use Rattle.index_layer_law.specs.Turnings.{SureWatch, IsShown}

module _ (l : Layout) (g : ℕ) (f f' : Facts) (later : IsLater f f') (list : IsList l f) (calm : IsCalm l g f f') where
  pub watch_stays : (watch : Watching) → SureWatch l g f watch → SureWatch l g f' watch
  watch_stays Nothing knows = tt
  watch_stays (Watches n version k) knows = record {
    here = knows.here;
    known = knows.known;
    free = knows.free;
    seen = let seen = knows.seen in let rise = calm.rises n knows.here in omega arith;
    leads = λ live. calm.leads n (knows.leads live);
    stands = λ is.
        let seen = knows.seen in
        let rise = calm.rises n knows.here in
        let same : f.version n ≡ version = omega arith in
        stands_kept l g f f' later n k (calm.steady n knows.here (subst (λ (u : ℕ). IsFree u g) (sym same) knows.free) (is ∙ sym same)) calm list (knows.stands same);
  }

  pub shown_stays : (key : List ℕ) (target : RowTarget) → IsShown l g f key target → IsShown l g f' key target
  shown_stays key target shown = record { sight = shown.sight; sure = watch_stays (Watches target.node target.version shown.sight) shown.sure; seen = shown.seen }
