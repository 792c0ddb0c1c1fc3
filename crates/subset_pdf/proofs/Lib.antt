mod Lines
mod Sheets
