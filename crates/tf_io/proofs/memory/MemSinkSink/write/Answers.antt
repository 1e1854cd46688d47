use Rattle.std.proofs.Common.{inl, inr, rules}
use Rattle.tf_io.proofs.memory.MemSinkSink.write.Goals as goal

pub returns-then-contains-clause-caused : goal.returns-then-contains-clause-caused
returns-then-contains-clause-caused c = λ changed. inl (search rules)

pub returns-then-not-is_empty-clause-caused : goal.returns-then-not-is_empty-clause-caused
returns-then-not-is_empty-clause-caused c = λ changed. inr (inl (search rules))
