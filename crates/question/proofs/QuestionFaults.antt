-- What a function's `?` hands on: the same fault.
use mathlib.Core.Path.{◌≡◌, refl, ap}
use native.Mathlib.Omega.{arith}
use Rattle.std.specs.Prelude.{Result, Ok, Err, IsErrAnd}
use Rattle.question.specs.Node.{fault_read}
use Rattle.question.specs.NodeRead.{own_bytes, children}
use Rattle.question.specs.declared.node.NodeFault.TheVariants.{Bad, Endless}
use Rattle.question.specs.declared.node.NodeFault.{NodeFault}
use Rattle.question.specs.FaultNumber.{question_fault_number, number_of}
use Rattle.question.specs.declared.QuestionFault.{QuestionFault}
use Rattle.question.specs.declared.QuestionFault.TheVariants.{Malformed, ManyNodes, UndefinedId, EndlessType}

-- a fault that is handed on has its number
pub failed : {T : Type 0} (r : Result T QuestionFault) (fault : QuestionFault) → IsErrAnd r (λ x. x ≡ fault) → number_of r ≡ question_fault_number fault
failed (Ok x) fault h = absurd h
failed (Err x) fault h = ap question_fault_number h

-- a fault has a number other than 0
pub some_number : (fault : QuestionFault) → question_fault_number fault ≡ 0 → ⊥
some_number Malformed h = omega arith
some_number ManyNodes h = omega arith
some_number UndefinedId h = omega arith
some_number EndlessType h = omega arith

-- both
pub ruleset faults = (failed, some_number)

-- what is not read has no bytes of its own and no children
pub unread_bytes : (fault : NodeFault) → own_bytes (fault_read fault) ≡ 0
unfolding own_bytes
unread_bytes Bad = refl
unread_bytes (Endless top) = refl

pub unread_children : (fault : NodeFault) → children (fault_read fault) ≡ 0
unfolding children
unread_children Bad = refl
unread_children (Endless top) = refl
