-- What the commands of the program `dewgoblin` print.
pub mod Commands
