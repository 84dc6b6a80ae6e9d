-- How the program ends, and with which statuses.
use Rattle.std.specs.Prelude.{◌≡◌, ◌⊎◌, ℕ}
use Rattle.line_reader.specs.declared.config_file.ConfigFault.{ConfigFault}
use Rattle.line_reader.specs.declared.config_file.ConfigFault.TheVariants as config_fault
use Rattle.feeds_core.specs.declared.status.FeedsStatus.{FeedsStatus}
use Rattle.feeds_core.specs.declared.status.FeedsStatus.TheVariants as feeds_status
use Rattle.replay_core.specs.declared.status.Status.{Status}
use Rattle.replay_core.specs.declared.status.Status.TheVariants as status
use Rattle.audit_core.specs.declared.audit.AuditRefusal.{AuditRefusal}
use Rattle.audit_core.specs.declared.audit.AuditRefusal.TheVariants as audit_refusal
use Rattle.audit_core.specs.declared.verdict.AuditFault.{AuditFault}
use Rattle.audit_core.specs.declared.verdict.AuditFault.TheVariants as audit_fault
use Rattle.audit_core.specs.declared.verdict.Verdict.{Verdict}
use Rattle.audit_core.specs.declared.verdict.Verdict.TheVariants as verdict
use Rattle.audit_tables.specs.declared.asked.Found.{Found}
use Rattle.audit_tables.specs.declared.asked.Found.TheVariants as found
use Rattle.audit_feeds.specs.declared.auditing.FeedsRefusal.{FeedsRefusal}
use Rattle.audit_feeds.specs.declared.auditing.FeedsRefusal.TheVariants as feeds_refusal
use Rattle.audit_feeds.specs.declared.auditing.FeedsVerdict.{FeedsVerdict}
use Rattle.audit_feeds.specs.declared.auditing.FeedsVerdict.TheVariants as feeds_verdict
use Rattle.audit_chart.specs.declared.drawing.Drawn.{Drawn}
use Rattle.audit_chart.specs.declared.drawing.Drawn.TheVariants as drawn
use Rattle.audit_telling.specs.declared.exit.Exit.{Exit}
use Rattle.audit_telling.specs.declared.exit.Exit.TheVariants.{Done, Differs, BadWords, BadLine, Limit, ReadFault, WriteFault, NoMemory, NotThere}

abbrev pub exit_code : Exit → ℕ
exit_code Done = 0
exit_code Differs = 1
exit_code BadWords = 2
exit_code BadLine = 3
exit_code Limit = 4
exit_code ReadFault = 5
exit_code WriteFault = 6
exit_code NoMemory = 7
exit_code NotThere = 8

-- it is the exit that is meant, or a write fault where what it tells was not put
abbrev pub IsExit : Exit → Exit → Type 0
IsExit meant exit = (exit ≡ meant) ⊎ (exit ≡ WriteFault)

-- ---- of a verdict

abbrev pub exit_of_verdict : Verdict → Exit
exit_of_verdict verdict.Same = Done
exit_of_verdict (verdict.Differs line expected) = Differs

abbrev pub exit_of_feeds_verdict : FeedsVerdict → Exit
exit_of_feeds_verdict feeds_verdict.Same = Done
exit_of_feeds_verdict (feeds_verdict.Differs line expected) = Differs
exit_of_feeds_verdict (feeds_verdict.Departures text) = Differs

-- of a picture, or why there is none
abbrev pub exit_of_drawn : Drawn → Exit
exit_of_drawn (drawn.Picture picture) = Done
exit_of_drawn (drawn.Differs line expected) = Differs
exit_of_drawn drawn.NoSuchSymbol = BadWords

-- of what the day has of that which was asked for
abbrev pub exit_of_found : Found → Exit
exit_of_found found.NoSymbol = BadWords
exit_of_found found.NoEvent = NotThere
exit_of_found found.NoOrder = NotThere
exit_of_found found.All = Done

-- ---- where there is no verdict

abbrev pub exit_of_config_fault : ConfigFault → Exit
exit_of_config_fault (config_fault.Bad line cause) = BadLine
exit_of_config_fault (config_fault.Limit line which) = Limit
exit_of_config_fault config_fault.ReadFault = ReadFault
exit_of_config_fault config_fault.NoMemory = NoMemory

abbrev pub exit_of_fault : AuditFault → Exit
exit_of_fault audit_fault.ReadFault = ReadFault
exit_of_fault audit_fault.TooLarge = Limit
exit_of_fault (audit_fault.LongLine line) = Limit
exit_of_fault audit_fault.WriteFault = WriteFault
exit_of_fault audit_fault.NoMemory = NoMemory

abbrev pub exit_of_refusal : AuditRefusal → Exit
exit_of_refusal (audit_refusal.Config fault) = exit_of_config_fault fault
exit_of_refusal audit_refusal.SplitName = BadLine
exit_of_refusal (audit_refusal.Listing fault) = exit_of_fault fault

-- of feeds that were not taken
abbrev pub exit_of_feeds_status : FeedsStatus → Exit
exit_of_feeds_status feeds_status.Done = BadWords
exit_of_feeds_status feeds_status.BadWords = BadWords
exit_of_feeds_status (feeds_status.BadFeed file line cause) = BadLine
exit_of_feeds_status (feeds_status.LimitFeed file line which) = Limit
exit_of_feeds_status (feeds_status.Full symbol) = Limit
exit_of_feeds_status feeds_status.ReadFault = ReadFault
exit_of_feeds_status feeds_status.WriteFault = WriteFault
exit_of_feeds_status feeds_status.NoMemory = NoMemory

abbrev pub exit_of_feeds_refusal : FeedsRefusal → Exit
exit_of_feeds_refusal (feeds_refusal.Feeds status) = exit_of_feeds_status status
exit_of_feeds_refusal (feeds_refusal.Audit refusal) = exit_of_refusal refusal

-- of a script that was explained
abbrev pub exit_of_status : Status → Exit
exit_of_status status.Done = Done
exit_of_status status.BadWords = BadWords
exit_of_status (status.BadLine line cause) = BadLine
exit_of_status (status.LimitLine line which) = Limit
exit_of_status status.ReadFault = ReadFault
exit_of_status status.WriteFault = WriteFault
exit_of_status status.NoMemory = NoMemory
