-- What the cases from bytes are computed with: to unfold `computed` is to unfold what its line names.
use Rattle.area.specs.Diagnostic.{record_of, records}
use Rattle.written.specs.Padding.{padded_to}
use Rattle.scoring.specs.Arity.{any_own, own, usable, required, ends_vararg, fits, fitting}
use Rattle.overload.specs.Before.{suspend_report}
use Rattle.overload.specs.Best.{better, chosen}
use Rattle.overload.specs.Reports.{absent, unknown_one, unknowns, all_unknown, mismatch_one, mismatches}
use Rattle.overload.specs.Resolve.{none_fits, tie_report, settle, resolve_in, resolve}
use Rattle.scoring.specs.WithParams.{param_named, is_name, some_arg_named, free_params, next_param, behind_next, parameter_for, left_behind, in_turn}
use Rattle.scoring.specs.Score.{plus as plus·, compared, score_one, total, score}
use Rattle.question.specs.Header.{header_of}
use Rattle.question.specs.Parse.{first as first·, rest as rest·, take_row, drop_row, onto, row_at, tree_of}
use Rattle.question.specs.NodeRead.{leaf_of, node_of, node_in, node_at, own_bytes, children as children·question}
use Rattle.question.specs.QuestionRefused.{header_fault, node_ids, shape_fault, node_fault, more_fault, end_fault, nodes_fault, tree_fault, question_fault}
use Rattle.question.specs.Tree.{number_after, argument_name}
use Rattle.rules.specs.Accept.{param_accepts}
use Rattle.rules.specs.Access.{blocked, access_report}
use Rattle.operators.specs.Assign.{assign_step, assign_in, can_assign}
use Rattle.operators.specs.Binary.{add_out, arithmetic_out, operator_out, builtin_binary, binary_out}
use Rattle.operators.specs.Diag.{reported_at as at·}
use Rattle.rules.specs.Member.{variable_member, pair_member, collection_member, string_member, element_member, map_member, first_function, field_or, class_member, named_member, kind_member, visibility_report, member_report, base_member, member_out}
use Rattle.operators.specs.OperatorMethod.{first_result, at_class, climb, operator_return}
use Rattle.operators.specs.Out.{unless, found as found·}
use Rattle.operators.specs.Unary.{unary_of, unary_out}
use Rattle.record.specs.Layout.{param_fields, fields_of, good_name, fields_from, any_field, each_field, lengths, record_kind, record_size, value_in, bytes_in}
use Rattle.symbol.specs.Lookup.{params_by, overload_from, overload_of, symbols_in}
use Rattle.record.specs.TableRefused.{occurs, repeats, key_repeated, is_late, record_fault, first_fault, table_fault}
use Rattle.record.specs.Spelling.{builtin_names, spelled}
use Rattle.symbol.specs.Subclass.{climbs, is_subclass}
use Rattle.below.specs.Below.{by_way_of, met_within, is_below}
use Rattle.record.specs.Table.{records_from, of_kind, key_of, keyed}
use Rattle.ty.specs.Bytes.{inner_of, non_null, same_bytes, size_width}
use Rattle.ty.specs.Choose.{choose}
use Rattle.ty.specs.Name.{all_defined}
use Rattle.ty.specs.Read.{body_length, child_count, number_at, id_in, item_of, item_at, no_end, read_from, read_type}
use Rattle.ty.specs.Ids.{own_ids, ids_from, ids_in}
use Rattle.typing.specs.Answer.{fault_of, answered, answer_of, buffer_of}
use Rattle.typing.specs.Callee.{base_name, call_in, method_in, method_by}
use Rattle.typing.specs.Judge.{call_step, method_step, judge}
use Rattle.typing.specs.Mark.{no_error, no_diag, passes}

unfoldable pub computed : Unit {0}
unfolding inner_of non_null same_bytes choose size_width body_length child_count number_at id_in item_of item_at no_end read_from read_type own_ids ids_from ids_in param_fields fields_of good_name fields_from any_field each_field lengths record_kind record_size value_in bytes_in records_from of_kind key_of keyed all_defined occurs repeats key_repeated is_late record_fault first_fault table_fault params_by overload_from overload_of symbols_in builtin_names spelled climbs is_subclass by_way_of met_within is_below header_of first· rest· take_row drop_row onto row_at tree_of leaf_of node_of node_in node_at own_bytes children·question header_fault node_ids shape_fault node_fault more_fault end_fault nodes_fault tree_fault question_fault number_after argument_name record_of records padded_to param_accepts blocked access_report assign_step assign_in can_assign add_out arithmetic_out operator_out builtin_binary binary_out at· variable_member pair_member collection_member string_member element_member map_member first_function field_or class_member named_member kind_member visibility_report member_report base_member member_out first_result at_class climb operator_return unless found· unary_of unary_out any_own own usable required ends_vararg fits fitting suspend_report better chosen absent unknown_one unknowns all_unknown mismatch_one mismatches none_fits tie_report settle resolve_in resolve param_named is_name some_arg_named free_params next_param behind_next parameter_for left_behind in_turn plus· compared score_one total score fault_of answered answer_of buffer_of base_name call_in method_in method_by call_step method_step judge no_error no_diag passes
computed = tt
