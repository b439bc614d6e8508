-- The laws of what `strings` prints.
pub mod StringsPrinted
pub mod StringsSuffice
