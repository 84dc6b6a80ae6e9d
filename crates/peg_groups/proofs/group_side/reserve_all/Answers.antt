use Rattle.std.proofs.Common.{◌≡◌, ap, ◌∙◌, length}
use Rattle.std.proofs.lemmas.Result.{on_err_weaker}
use Rattle.peg_groups.specs.Groups.{IsRoomier}
use Rattle.peg_groups.proofs.Repricing.{paired_length, any_ok, any_err, room_grown}
use Rattle.peg_groups.proofs.group_side.reserve_all.Goals as goal

pub returns-in_err-reserve_missing-clause-err : goal.returns-in_err-reserve_missing-clause-err
returns-in_err-reserve_missing-clause-err c = any_err c.from_residual.result (paired_length (λ _ old new. IsRoomier old new) c.args.groups.now.entries c.reserve_missing.new.groups.entries c.reserve_missing.ensures.kept)

pub reserve_group-requires : goal.reserve_group-requires
reserve_group-requires c = record { key = c.requires.key c.in-Some.key c.in-Some.is }

pub returns-in-Some-clause-room : goal.returns-in-Some-clause-room
returns-in-Some-clause-room c = any_ok c.reserve_group.result (room_grown c.args.best c.in-Some.key c.reserve_missing.new.groups.entries c.reserve_group.new.groups.entries c.in_ok-reserve_missing.ensures.room c.reserve_group.ensures.grown)

pub returns-in-Some-clause-err : goal.returns-in-Some-clause-err
returns-in-Some-clause-err c = on_err_weaker c.reserve_group.result (λ (e : c.reserve_group.new.groups.entries ≡ c.reserve_missing.new.groups.entries). ap length e ∙ paired_length (λ _ old new. IsRoomier old new) c.args.groups.now.entries c.reserve_missing.new.groups.entries c.reserve_missing.ensures.kept) c.reserve_group.ensures.err
