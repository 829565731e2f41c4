-- Definitions that must be believed, in reading order.
pub mod Address
pub mod Result
pub mod Operand
-- What private code is held to. No definition above mentions it.
pub mod PackedStep
-- Laws that the checker has shown, for the layers above.
pub mod AddressLaws
pub mod OperandLaws
pub mod ByteLaws
pub mod PackedStepLaws
-- Names for lists of definitions.
pub mod OperandDefinitions
