use Rattle.std.specs.Prelude.{ℕ, List, codes}
use Rattle.script.specs.declared.kinds.OperationKind.{OperationKind}
use Rattle.script.specs.declared.kinds.OperationKind.TheVariants.{Create, Add, Replace, DeleteFilters, DeleteTft, NoOperation}
use Rattle.script.specs.declared.kinds.MessageKind.{MessageKind}
use Rattle.script.specs.declared.kinds.MessageKind.TheVariants.{DedicatedRequest, DedicatedAccept, DedicatedReject, ModifyRequest, ModifyAccept, ModifyReject, DeactivateRequest, DeactivateAccept, ModificationReject}
use Rattle.script.specs.declared.kinds.RoleKind.{RoleKind}
use Rattle.script.specs.declared.kinds.RoleKind.TheVariants.{Idle, Default, Dedicated}
use Rattle.script.specs.declared.kinds.Switch.{Switch}
use Rattle.script.specs.declared.kinds.Switch.TheVariants.{On, Off}

-- the word of an operation
abbrev pub operation_word : OperationKind → List ℕ
operation_word Create = codes "create"
operation_word Add = codes "add"
operation_word Replace = codes "replace"
operation_word DeleteFilters = codes "delete-filters"
operation_word DeleteTft = codes "delete-tft"
operation_word NoOperation = codes "none"

-- the word of a message
abbrev pub message_word : MessageKind → List ℕ
message_word DedicatedRequest = codes "dedicated-request"
message_word DedicatedAccept = codes "dedicated-accept"
message_word DedicatedReject = codes "dedicated-reject"
message_word ModifyRequest = codes "modify-request"
message_word ModifyAccept = codes "modify-accept"
message_word ModifyReject = codes "modify-reject"
message_word DeactivateRequest = codes "deactivate-request"
message_word DeactivateAccept = codes "deactivate-accept"
message_word ModificationReject = codes "modification-reject"

-- the word of a role; of a dedicated bearer's the link stands behind it
abbrev pub role_word : RoleKind → List ℕ
role_word Idle = codes "idle"
role_word Default = codes "default"
role_word Dedicated = codes "dedicated"

-- the word of a switch
abbrev pub switch_word : Switch → List ℕ
switch_word On = codes "on"
switch_word Off = codes "off"
