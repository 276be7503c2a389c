-- What is read of a question that was written. `reads_back` has it of every legal tree of at most 64 nodes.
use Rattle.std.specs.Prelude.{◌+◌, length, true, ◌≡◌}
use Rattle.question.specs.Header.{header_bytes, header_of}
use Rattle.question.specs.Parse.{tree_of}
use Rattle.question.specs.QuestionRefused.{none_or_defined, question_fault}
use Rattle.question.specs.Tree.{Node, bytes}
use Rattle.question.specs.Write.{write_question}
use Rattle.question.specs.declared.Header.{Header}
use Rattle.question.specs.declared.Names.{Names}

pub record ReadsBack (N : Names) (h : Header) (x : Node) : Type 0 where
  -- reading what a tree writes gives the tree, and its header
  pub tree : tree_of (write_question h x) ≡ x
  pub header : header_of (write_question h x) ≡ h
  pub long : length (write_question h x) ≡ header_bytes + bytes x
  -- it is accepted where the header's ids are none or defined
  pub accepted : none_or_defined N h.current ≡ true → none_or_defined N h.pkg ≡ true → question_fault N (write_question h x) ≡ 0
