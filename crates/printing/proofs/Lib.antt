pub mod TextLaws
pub mod RefusalLaws
