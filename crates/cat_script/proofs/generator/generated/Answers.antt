use Rattle.std.proofs.Common.{◌≡◌, suc, ◌+◌, ◌*◌, ◌/◌, ◌%◌, ◌++◌, ◌∷◌, [], cond, sym, ap, ◌∙◌, arith}
use Rattle.std.proofs.lemmas.List.FromFn.{map-range_with_len_more}
use Rattle.cat_history.specs.declared.op.CallerOp.{CallerOp}
use Rattle.cat_history.specs.declared.op.Op.{Op}
use Rattle.cat_script.specs.Generators.{next_number, number_after, generated_name, chosen_op, generated_call, generated_calls}
use Rattle.cat_script.proofs.generator.generated.Goals as goal

pub loop-index-preserved : goal.loop-index-preserved
loop-index-preserved c =
    let was = c.loop-index.invariant in
    let seed = c.args.seed in
    let i = c.loop-index.index in
    let caller = i % c.args.callers in
    let first : c.next-first.result ≡ number_after seed (suc (2 * i)) = c.next-first.ensures.next ∙ ap next_number was.number in
    let second : c.next-second.result ≡ number_after seed (suc (suc (2 * i))) = c.next-second.ensures.next ∙ ap next_number first in
    let one : suc (2 * i) ≡ 2 * i + 1 = omega arith in
    let two : suc (suc (2 * i)) ≡ 2 * i + 2 = omega arith in
    let more : suc (suc (2 * i)) ≡ 2 * (i + 1) = omega arith in
    let key = first ∙ ap (number_after seed) one in
    let choice = second ∙ ap (number_after seed) two in
    let name = c.name_of-name.ensures ∙ ap (λ n. generated_name caller (n / 65536 % 64)) key in
    let op : c.chosen-op.result ≡ (generated_call seed c.args.callers i).op =
    c.chosen-op.ensures ∙ ap (λ n. chosen_op (c.next-second.result / 65536 % 8) n i) name ∙ ap (λ n. chosen_op (n / 65536 % 8) (generated_name caller (number_after seed (2 * i + 1) / 65536 % 64)) i) choice in
    let call : CallerOp = record { caller = caller; op = c.chosen-op.result } in
    let old = c.loop-index.ops.items in
    let items : c.push.new.self.items ≡ old ++ call ∷ [] = c.push.ensures.items ∙ ap (λ t. cond t (old ++ call ∷ []) old) c.if-is_err.ensures.negation in
    record {
      number = second ∙ ap (number_after seed) more;
      small = c.next-second.ensures.small;
      ops = items ∙ ap (λ os. os ++ call ∷ []) was.ops
          ∙ ap (λ (o : Op). generated_calls seed i c.args.callers ++ record { caller = caller; op = o } ∷ []) op
          ∙ sym (map-range_with_len_more (generated_call seed c.args.callers) 0 i i (omega arith));
    }
